-- Assumes nothing.
use Rattle.vectors_calls.specs.Given.{cds_in}
use Rattle.vectors_calls.proofs.edit_calls.cds_of.Goals as goal

pub returns : goal.returns
unfolding cds_in
returns c = rw (c.number-cs.ensures, c.number-ce.ensures, c.number-table.ensures)
