-- `profile::first_refusal` meets its contract. Assumes nothing.
use Rattle.rules.specs.Bytes.{first_number}
use mathlib.Core.Path.{ap}
use mathlib.Core.Bool.{not}
use Rattle.profile.proofs.first_refusal.Goals as goal

pub returns-then-not-bases : goal.returns-then-not-bases
unfolding first_number
returns-then-not-bases c = rw (ap not c.if-not-bases.true)

pub returns-then-not-of_panel : goal.returns-then-not-of_panel
unfolding first_number
returns-then-not-of_panel c = rw ((ap not c.if-not-bases.false), (ap not c.if-not-of_panel.true))

pub returns-then-uneven : goal.returns-then-uneven
unfolding first_number
returns-then-uneven c = rw ((ap not c.if-not-bases.false), (ap not c.if-not-of_panel.false), c.if-uneven.true)

pub returns-then-not-names : goal.returns-then-not-names
unfolding first_number
returns-then-not-names c = rw ((ap not c.if-not-bases.false), (ap not c.if-not-of_panel.false), c.if-uneven.false, (ap not c.if-not-names.true))

pub returns : goal.returns
unfolding first_number
returns c = rw ((ap not c.if-not-bases.false), (ap not c.if-not-of_panel.false), c.if-uneven.false, (ap not c.if-not-names.false))
