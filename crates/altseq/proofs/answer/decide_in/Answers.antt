-- `altseq::answer::decide_in` meets its contract. Assumes nothing.
use mathlib.Core.Path.{sym, ◌∙◌}
use native.Mathlib.Omega.{arith}
use Rattle.rules.specs.Packed.{letters_by}
use Rattle.rules.specs.Refusal.{limits}
use Rattle.rules.specs.Views.{asked}
use Rattle.reference.proofs.Judging.{exit-told}
use Rattle.reference.proofs.Checking.{bounded, checks}
use Rattle.altseq.specs.Decided.{decided_in}
use Rattle.altseq.proofs.Answering.{plan-front, stays-refused, stays-unknown, room-refused, room-enough}
use Rattle.altseq.proofs.answer.decide_in.Goals as goal

pub decide-requires : goal.decide-requires
decide-requires c =
    let a = c.args in
    let x = c.requires in
    record { checks = checks limits (letters_by a.known.form a.letters.now) a.known x.exceptions x.protein x.known; most_bound = omega arith }

pub returns-in_err-plan : goal.returns-in_err-plan
unfolding decided_in
returns-in_err-plan c = exit-told _ _ c.from_residual.ensures.1 ∙ stays-refused _ _ _ _ (sym c.in_err-plan.ensures)

pub returns-in_default : goal.returns-in_default
unfolding decided_in
returns-in_default c = stays-unknown _ _ _ (sym (rw c.in_default.is at c.in_ok-plan.ensures))

pub room_refusal-requires : goal.room_refusal-requires
room_refusal-requires c =
    let a = c.args in
    let x = c.requires in
    let s = letters_by a.known.form a.letters.now in
    record { bounded = bounded s a.known.cds (checks limits s a.known x.exceptions x.protein x.known).sound; cs_in_bounds = plan-front limits s a.known x.exceptions x.protein x.known (asked a.edit a.new.now) _ (sym (rw c.in-Some.is at c.in_ok-plan.ensures)) }

pub returns-in_err-room_refusal : goal.returns-in_err-room_refusal
unfolding decided_in
returns-in_err-room_refusal c = exit-told _ _ c.from_residual-in_err-room_refusal.ensures.1 ∙ room-refused _ _ _ _ (sym (rw c.in-Some.is at c.in_ok-plan.ensures)) _ c.in_err-room_refusal.ensures

pub returns : goal.returns
unfolding decided_in
returns c = room-enough _ _ _ _ (sym (rw c.in-Some.is at c.in_ok-plan.ensures)) c.in_ok-room_refusal.ensures
