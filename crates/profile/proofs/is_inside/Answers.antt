-- `profile::is_inside` meets its contract, arm by arm. Assumes nothing.
use Rattle.std.proofs.Common.{rules}
use Rattle.rules.specs.Position.{is_before, is_behind}
use Rattle.rules.specs.Panel.{is_inside}
use Rattle.profile.proofs.is_inside.Goals as goal

pub returns-in-Plus : goal.returns-in-Plus
unfolding is_inside is_before is_behind
returns-in-Plus c = search rules

pub returns-in_default : goal.returns-in_default
unfolding is_inside is_before is_behind
returns-in_default c = search rules
