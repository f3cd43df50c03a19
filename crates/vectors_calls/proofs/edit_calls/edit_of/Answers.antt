-- Assumes nothing.
use Rattle.vectors_calls.specs.Given.{edit_in}
use Rattle.vectors_calls.proofs.edit_calls.edit_of.Goals as goal

pub returns : goal.returns
unfolding edit_in
returns c = rw (c.kind-kind.ensures, c.position-start.ensures, c.position-end.ensures)
