-- `profile::is_panel_kind` meets its contract, arm by arm. Assumes nothing.
use Rattle.std.proofs.Common.{rules}
use Rattle.rules.specs.Panel.{is_panel_kind}
use Rattle.profile.proofs.is_panel_kind.Goals as goal

pub returns-in-Substitution : goal.returns-in-Substitution
unfolding is_panel_kind
returns-in-Substitution c = search rules

pub returns-in_default : goal.returns-in_default
unfolding is_panel_kind
returns-in_default c = search rules
