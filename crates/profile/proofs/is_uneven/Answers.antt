-- `profile::is_uneven` meets its contract, arm by arm. Assumes nothing.
use Rattle.std.proofs.Common.{rules}
use Rattle.profile.specs.Numbers.{uneven_by}
use Rattle.profile.proofs.is_uneven.Goals as goal

pub returns-in-Deletion : goal.returns-in-Deletion
unfolding uneven_by
returns-in-Deletion c = search rules

pub returns-in-Insertion : goal.returns-in-Insertion
unfolding uneven_by
returns-in-Insertion c = search rules

pub returns-in_default : goal.returns-in_default
unfolding uneven_by
returns-in_default c = search rules
