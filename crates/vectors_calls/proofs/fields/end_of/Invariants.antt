use mathlib.Core.Path.{◌≡◌}
use Prim.Native.Nat.{◌+◌, ◌≤◌, ◌-◌}
use lib.ListN.{length, drop}
use Rattle.vectors_calls.specs.Fields.{before}
use Rattle.vectors_calls.proofs.fields.end_of.Given as goal

abbrev pub invariant-loop-i : goal.invariant-loop-i
invariant-loop-i l = (l.i ≤ length l.s) × (l.i + before l.b (drop l.i l.s) ≡ l.from + before l.b (drop l.from l.s))
