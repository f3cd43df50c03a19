-- `host_told::told_by` meets its contract. Assumes nothing.
use Rattle.rules.specs.Values.{told_by}
use Rattle.host_told.proofs.told_by.Goals as goal

pub returns-in-Unknown : goal.returns-in-Unknown
unfolding told_by
returns-in-Unknown c = rw c.in-Unknown.is c.alone.ensures

pub returns-in-NoProtein : goal.returns-in-NoProtein
unfolding told_by
returns-in-NoProtein c = rw c.in-NoProtein.is c.alone-in-NoProtein.ensures

pub returns-in-Silent : goal.returns-in-Silent
unfolding told_by
returns-in-Silent c = rw (c.in-Silent.is, c.alone-in-Silent.ensures, c.saturating_sub-at.ensures)

pub returns-in-Changed : goal.returns-in-Changed
unfolding told_by
returns-in-Changed c = rw (c.in-Changed.is, c.alone-in-Changed.ensures, c.class_number.ensures)
