-- `host_told::reported` meets its contract. Assumes nothing.
use Rattle.rules.specs.Values.{values_of}
use Rattle.host_told.proofs.reported.Goals as goal

pub returns : goal.returns
unfolding values_of
returns c = rw c.told_by.ensures
