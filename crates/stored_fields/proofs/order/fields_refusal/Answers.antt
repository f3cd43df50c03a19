-- `stored_fields::order::fields_refusal` meets its contract. The invariant: the fields from the place on are refused with what all are.
use mathlib.Core.Path.{sym, ap, ◌∙◌}
use native.Mathlib.Omega.{arith}
use Rattle.rules.specs.Stored.{reference_form}
use Rattle.reference.proofs.Judging.{number_some, exit_refusal}
use Rattle.fields.specs.Refusals.{refusal_in}
use Rattle.fields.proofs.Places.{holds, within}
use Rattle.fields.proofs.Order.{from_start, refused-here, none_here, goes_on, refusal_with}
use Rattle.stored_fields.proofs.order.fields_refusal.Goals as goal

pub loop-tag-init : goal.loop-tag-init
loop-tag-init c = sym (ap refusal_in (from_start reference_form c.args.s.now))

pub field_refusal-requires : goal.field_refusal-requires
field_refusal-requires c =
    within c.args.s.now c.loop-tag.at c.next_field-f.result c.next_field-f.ensures

pub returns-in_err-field_refusal : goal.returns-in_err-field_refusal
returns-in_err-field_refusal c =
    let turn = c.loop-tag in
    exit_refusal _ _ c.from_residual.ensures.1
    ∙ refused-here reference_form c.args.s.now turn.at turn.last c.next_field-f.result c.next_field-f.ensures _ c.in_err-field_refusal.ensures (number_some _)
    ∙ turn.invariant

pub returns-in_default : goal.returns-in_default
unfolding refusal_in
returns-in_default c =
    let turn = c.loop-tag in
    let f = c.next_field-f in
    sym (ap refusal_in (none_here reference_form c.args.s.now turn.at turn.last f.result f.ensures (sym c.in_ok-field_refusal.ensures) c.in_default.not-Whole))
    ∙ turn.invariant

pub overflow_add-at : goal.overflow_add-at
overflow_add-at c =
    let w = holds c.args.s.now c.loop-tag.at c.next_field-f.result c.next_field-f.ensures _ _ c.in-Whole.is in
    omega (arith, w.fits)

pub loop-tag-smaller : goal.loop-tag-smaller
loop-tag-smaller c =
    let w = holds c.args.s.now c.loop-tag.at c.next_field-f.result c.next_field-f.ensures _ _ c.in-Whole.is in
    omega (arith, w.begins, w.fits)

pub loop-tag-preserved : goal.loop-tag-preserved
loop-tag-preserved c =
    let turn = c.loop-tag in
    let f = c.next_field-f in
    let on = goes_on reference_form c.args.s.now turn.at turn.last f.result f.ensures _ _ c.in-Whole.is (sym c.in_ok-field_refusal.ensures) in
    sym (ap refusal_in on ∙ refusal_with _ _ _) ∙ turn.invariant
