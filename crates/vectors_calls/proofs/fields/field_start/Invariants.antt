use mathlib.Core.Path.{◌≡◌}
use Prim.Native.Nat.{◌≤◌}
use lib.ListN.{length, drop}
use Rattle.vectors_calls.specs.Fields.{field_at}
use Rattle.vectors_calls.proofs.fields.field_start.Given as goal

abbrev pub invariant-loop-left : goal.invariant-loop-left
invariant-loop-left l = (l.at ≤ length l.s) × (field_at l.left (drop l.at l.s) ≡ field_at l.k l.s)

abbrev pub decreases-loop-left : goal.decreases-loop-left
decreases-loop-left l = l.left
