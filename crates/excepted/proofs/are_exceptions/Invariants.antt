use mathlib.Core.Path.{◌≡◌}
use mathlib.Core.Bool.{true}
use lib.ListN.{take}
use Rattle.rules.specs.Bytes.{all}
use Rattle.excepted.proofs.Putting.{can_be}
use Rattle.excepted.proofs.are_exceptions.Given as goal

abbrev pub invariant-loop-k : goal.invariant-loop-k
invariant-loop-k l = all can_be (take l.k l.e.all) ≡ true
