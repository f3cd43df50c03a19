-- `longest::is_given_longest` meets its contract. Assumes nothing.
use mathlib.Core.Path.{refl}
use Rattle.rules.specs.Longest.{is_given_longest}
use Rattle.longest.proofs.is_given_longest.Goals as goal

pub returns : goal.returns
unfolding is_given_longest
returns c = refl
