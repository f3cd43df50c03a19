use mathlib.Core.Path.{◌≡◌}
use lib.ListN.{drop}
use Rattle.rules.specs.Reference.{are_rising}
use Rattle.bounds.proofs.fit_exceptions.Given as goal

abbrev pub invariant-loop-x : goal.invariant-loop-x
invariant-loop-x l = are_rising l.last l.most (drop l.x-index l.given) ≡ are_rising 0 l.most l.given
