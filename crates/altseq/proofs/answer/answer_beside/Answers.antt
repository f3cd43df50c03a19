-- `altseq::answer::answer_beside` meets its contract. Assumes nothing.
use mathlib.Core.Path.{refl, ap}
use Rattle.rules.specs.Bytes.{given, over}
use Rattle.rules.specs.Answer.{writes_nothing}
use Rattle.rules.specs.Packed.{letters_by}
use Rattle.reference.proofs.Judging.{exit-told}
use Rattle.altseq.specs.Decided.{decided_outcome}
use Rattle.altseq.proofs.Whole.{carries, answers-beside}
use Rattle.altseq.proofs.answer.answer_beside.Goals as goal

pub returns-in_err-plan : goal.returns-in_err-plan
unfolding decided_outcome writes_nothing over
returns-in_err-plan c =
    let a = c.args in
    let k = a.ready.known in
    answers-beside (letters_by k.form a.letters.now) k a.ready.e a.protein.now c.requires a.ready.edit a.new.now a.transcript.now a.reference a.altered.now _ c.in_err-plan.ensures
    _ _ _ (exit-told _ _ c.from_residual.ensures.1) refl refl

pub returns-in_default : goal.returns-in_default
unfolding decided_outcome writes_nothing over
returns-in_default c =
    let a = c.args in
    let k = a.ready.known in
    answers-beside (letters_by k.form a.letters.now) k a.ready.e a.protein.now c.requires a.ready.edit a.new.now a.transcript.now a.reference a.altered.now _ (rw c.in_default.is at c.in_ok-plan.ensures)
    _ _ _ (ap given c.unknown_report.ensures) refl refl

pub carry_out-requires : goal.carry_out-requires
carry_out-requires c =
    let a = c.args in
    let k = a.ready.known in
    carries (letters_by k.form a.letters.now) k a.ready.e a.protein.now c.requires a.ready.edit a.new.now a.transcript.now a.reference a.altered.now _ (rw c.in-Some.is at c.in_ok-plan.ensures) _ refl

pub returns : goal.returns
unfolding decided_outcome
returns c =
    let a = c.args in
    let k = a.ready.known in
    let made = c.carry_out.ensures in
    answers-beside (letters_by k.form a.letters.now) k a.ready.e a.protein.now c.requires a.ready.edit a.new.now a.transcript.now a.reference a.altered.now _ (rw c.in-Some.is at c.in_ok-plan.ensures)
    _ _ _ (ap given made.value) made.transcript_after made.altered_after
