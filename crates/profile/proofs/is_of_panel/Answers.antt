-- `profile::is_of_panel` meets its contract. Assumes nothing.
use Rattle.rules.specs.Panel.{is_of_panel}
use Rattle.profile.proofs.is_of_panel.Goals as goal

pub returns : goal.returns
unfolding is_of_panel
returns c = λ new. cc
