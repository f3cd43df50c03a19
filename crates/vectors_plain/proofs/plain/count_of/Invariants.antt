use mathlib.Core.Path.{◌≡◌}
use Prim.Native.Nat.{◌≤◌, ◌+◌}
use lib.ListN.{length, drop}
use Rattle.rules.specs.Bytes.{count}
use Rattle.vectors_plain.proofs.plain.count_of.Given as goal

abbrev pub invariant-loop-i : goal.invariant-loop-i
invariant-loop-i l = (l.i ≤ length l.s) × (l.n ≤ l.i) × (l.n + count l.b (drop l.i l.s) ≡ count l.b l.s)
