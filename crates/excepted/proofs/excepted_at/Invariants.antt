use mathlib.Core.Path.{◌≡◌}
use lib.ListN.{take}
use Rattle.rules.specs.Translation.{excepted}
use Rattle.excepted.proofs.excepted_at.Given as goal

abbrev pub invariant-loop-k : goal.invariant-loop-k
invariant-loop-k l = l.y ≡ excepted (take l.k l.e.all) l.n l.r
