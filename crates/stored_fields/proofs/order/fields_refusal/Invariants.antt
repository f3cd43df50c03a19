use mathlib.Core.Path.{◌≡◌}
use Prim.Native.Nat.{◌-◌}
use lib.ListN.{length, drop}
use Rattle.rules.specs.Stored.{reference_form, fields}
use Rattle.fields.specs.Refusals.{refusal_in}
use Rattle.fields.proofs.Order.{fields_after}
use Rattle.stored_fields.proofs.order.fields_refusal.Given as goal

abbrev pub invariant-loop-tag : goal.invariant-loop-tag
invariant-loop-tag l =
    refusal_in (fields_after reference_form l.last (drop l.at l.s)) ≡ refusal_in (fields reference_form l.s)

abbrev pub decreases-loop-tag : goal.decreases-loop-tag
decreases-loop-tag l = length l.s - l.at
