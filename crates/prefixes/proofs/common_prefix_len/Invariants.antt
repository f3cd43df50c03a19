use mathlib.Core.Path.{◌≡◌}
use Prim.Native.Nat.{◌+◌, ◌≤◌}
use lib.ListN.{drop}
use Rattle.rules.specs.Trims.{common_prefix}
use Rattle.prefixes.proofs.common_prefix_len.Given as goal

abbrev pub invariant-loop-i : goal.invariant-loop-i
invariant-loop-i l = (l.i ≤ l.n) × (common_prefix l.a l.b ≡ l.i + common_prefix (drop l.i l.a) (drop l.i l.b))
