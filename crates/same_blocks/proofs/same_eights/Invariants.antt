use mathlib.Core.Path.{◌≡◌}
use Prim.Native.Nat.{◌*◌}
use lib.ListN.{take, drop}
use Rattle.rules.specs.Bytes.{same}
use Rattle.same_blocks.proofs.same_eights.Given as goal

abbrev pub invariant-loop-i : goal.invariant-loop-i
invariant-loop-i g l = l.good ≡ same (take (l.i * 8) (drop l.k l.a)) (take (l.i * 8) (drop l.k l.b))
