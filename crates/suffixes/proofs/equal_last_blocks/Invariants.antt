use mathlib.Core.Path.{◌≡◌}
use Prim.Native.Nat.{◌+◌, ◌-◌, ◌*◌}
use lib.ListN.{length, take}
use Rattle.rules.specs.Trims.{common_suffix}
use Rattle.suffixes.proofs.equal_last_blocks.Given as goal

abbrev pub invariant-loop-k : goal.invariant-loop-k
invariant-loop-k l = common_suffix l.a l.b ≡ l.k * 64 + common_suffix (take (length l.a - l.k * 64) l.a) (take (length l.b - l.k * 64) l.b)
