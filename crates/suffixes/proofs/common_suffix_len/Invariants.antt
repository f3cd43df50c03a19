use mathlib.Core.Path.{◌≡◌}
use Prim.Native.Nat.{◌+◌, ◌-◌, ◌≤◌}
use lib.ListN.{length, take}
use Rattle.rules.specs.Trims.{common_suffix}
use Rattle.suffixes.proofs.common_suffix_len.Given as goal

abbrev pub invariant-loop-i : goal.invariant-loop-i
invariant-loop-i l = (l.i ≤ l.n) × (common_suffix l.a l.b ≡ l.i + common_suffix (take (length l.a - l.i) l.a) (take (length l.b - l.i) l.b))
