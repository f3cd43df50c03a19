-- `checks::answer::check_in` meets its contract. Assumes nothing.
use mathlib.Core.Path.{refl, sym, ap}
use native.Mathlib.Omega.{arith}
use lib.Seq.{length-take-le}
use Rattle.rules.specs.declared.Form.{Form}
use Rattle.rules.specs.Bytes.{given}
use Rattle.rules.specs.Packed.{letters_by}
use Rattle.rules.specs.Refusal.{limits}
use Rattle.rules.specs.Views.{asked, reference_of}
use Rattle.reference.proofs.Checking.{checked_refused, checked-accepted, protein_held, cds-known, form-known, residues-within, knows}
use Rattle.proposals.specs.Proposed.{proposed}
use Rattle.altseq.proofs.Whole.{room_with}
use Rattle.checks.specs.Checking.{decided_check}
use Rattle.checks.proofs.Whole.{reference-refused, carries-on, holds, holds_refused, holds_cds}
use Rattle.reference.proofs.Judging.{exit-told}
use Rattle.checks.proofs.answer.check_in.Goals as goal

pub returns-in_err-known : goal.returns-in_err-known
returns-in_err-known c =
    let a = c.args in
    let s = letters_by a.proposing.asks.form a.letters.now in
    let no = checked_refused limits.longest a.proposing.asks.form s a.proposing.asks.cds a.proposing.asks.e _ c.in_err-known.ensures.value in
    rw (exit-told _ _ c.from_residual.ensures.1)
    (reference-refused (reference_of s a.proposing.asks.cds a.proposing.asks.e) (asked a.proposing.asks.edit a.new.now) (proposed a.proposing.number a.deleted.now a.inserted.now) a.transcript.now a.proposing.room _ a.altered.now _ no.0 no.1)

pub slice_bounds-decide_changing-end : goal.slice_bounds-decide_changing-end
slice_bounds-decide_changing-end c =
    let a = c.args in
    let x = c.in_ok-known in
    let f = a.proposing.asks.form in
    let s = letters_by f a.letters.now in
    let ok = checked-accepted limits.longest f s a.proposing.asks.cds a.proposing.asks.e x.known x.ensures.value in
    let held = protein_held limits.longest s a.proposing.asks.cds a.proposing.asks.e _ _ ok.0 x.ensures.protein_after in
    residues-within limits f s a.proposing.asks.cds a.proposing.asks.e x.known ok.0 ok.1 _ _ held

pub slice_bounds-decide_changing-end-2 : goal.slice_bounds-decide_changing-end-2
slice_bounds-decide_changing-end-2 c =
    let a = c.args in
    let x = c.in_ok-known in
    let f = a.proposing.asks.form in
    let s = letters_by f a.letters.now in
    let ok = checked-accepted limits.longest f s a.proposing.asks.cds a.proposing.asks.e x.known x.ensures.value in
    let held = protein_held limits.longest s a.proposing.asks.cds a.proposing.asks.e _ _ ok.0 x.ensures.protein_after in
    sym (length-take-le x.known.residues _ (residues-within limits f s a.proposing.asks.cds a.proposing.asks.e x.known ok.0 ok.1 _ _ held))

pub decide_changing-requires : goal.decide_changing-requires
decide_changing-requires c =
    let a = c.args in
    let x = c.in_ok-known in
    let f = a.proposing.asks.form in
    let s = letters_by f a.letters.now in
    let ok = checked-accepted limits.longest f s a.proposing.asks.cds a.proposing.asks.e x.known x.ensures.value in
    let held = protein_held limits.longest s a.proposing.asks.cds a.proposing.asks.e _ _ ok.0 x.ensures.protein_after in
    let same = ap (λ (f : Form). letters_by f a.letters.now) (form-known limits f s a.proposing.asks.cds a.proposing.asks.e x.known ok.0 ok.1) in
    rw same (knows limits f s a.proposing.asks.cds a.proposing.asks.e x.known ok.0 ok.1 _ _ held (omega arith))

pub returns-in_err-plan : goal.returns-in_err-plan
returns-in_err-plan c =
    let a = c.args in
    let x = c.in_ok-known in
    let f = a.proposing.asks.form in
    let s = letters_by f a.letters.now in
    let ok = checked-accepted limits.longest f s a.proposing.asks.cds a.proposing.asks.e x.known x.ensures.value in
    let held = protein_held limits.longest s a.proposing.asks.cds a.proposing.asks.e _ _ ok.0 x.ensures.protein_after in
    let same = ap (λ (f : Form). letters_by f a.letters.now) (form-known limits f s a.proposing.asks.cds a.proposing.asks.e x.known ok.0 ok.1) in
    holds_cds s x.known.cds a.proposing.asks.cds a.proposing.asks.e (asked a.proposing.asks.edit a.new.now) (proposed a.proposing.number a.deleted.now a.inserted.now) (room_with a.transcript.now a.proposing.room a.altered.now) _ a.transcript.now _ a.proposing.room _ a.altered.now _
    (cds-known limits f s a.proposing.asks.cds a.proposing.asks.e x.known ok.0 ok.1)
    (rw (exit-told _ _ c.from_residual-in_err-plan.ensures.1) (holds_refused s x.known a.proposing.asks.e a.proposing.asks.edit a.new.now a.transcript.now a.proposing.room _ a.altered.now (proposed a.proposing.number a.deleted.now a.inserted.now) _ (rw same at c.in_err-plan.ensures)))

pub slice_bounds-judge_going-end : goal.slice_bounds-judge_going-end
slice_bounds-judge_going-end c =
    let a = c.args in
    let x = c.in_ok-known in
    let f = a.proposing.asks.form in
    let s = letters_by f a.letters.now in
    let ok = checked-accepted limits.longest f s a.proposing.asks.cds a.proposing.asks.e x.known x.ensures.value in
    let held = protein_held limits.longest s a.proposing.asks.cds a.proposing.asks.e _ _ ok.0 x.ensures.protein_after in
    residues-within limits f s a.proposing.asks.cds a.proposing.asks.e x.known ok.0 ok.1 _ _ held

pub slice_bounds-judge_going-end-2 : goal.slice_bounds-judge_going-end-2
slice_bounds-judge_going-end-2 c =
    let a = c.args in
    let x = c.in_ok-known in
    let f = a.proposing.asks.form in
    let s = letters_by f a.letters.now in
    let ok = checked-accepted limits.longest f s a.proposing.asks.cds a.proposing.asks.e x.known x.ensures.value in
    let held = protein_held limits.longest s a.proposing.asks.cds a.proposing.asks.e _ _ ok.0 x.ensures.protein_after in
    sym (length-take-le x.known.residues _ (residues-within limits f s a.proposing.asks.cds a.proposing.asks.e x.known ok.0 ok.1 _ _ held))

pub judge_going-requires : goal.judge_going-requires
judge_going-requires c =
    let a = c.args in
    let x = c.in_ok-known in
    let f = a.proposing.asks.form in
    let s = letters_by f a.letters.now in
    let ok = checked-accepted limits.longest f s a.proposing.asks.cds a.proposing.asks.e x.known x.ensures.value in
    let held = protein_held limits.longest s a.proposing.asks.cds a.proposing.asks.e _ _ ok.0 x.ensures.protein_after in
    let same = ap (λ (f : Form). letters_by f a.letters.now) (form-known limits f s a.proposing.asks.cds a.proposing.asks.e x.known ok.0 ok.1) in
    rw same (carries-on s x.known a.proposing.asks.e _ (knows limits f s a.proposing.asks.cds a.proposing.asks.e x.known ok.0 ok.1 _ _ held (omega arith)) a.proposing.asks.edit a.new.now a.transcript.now a.proposing.room a.altered.now (proposed a.proposing.number a.deleted.now a.inserted.now) (given c.in_ok-plan.plan) (rw same at c.in_ok-plan.ensures) _ refl)

pub returns : goal.returns
unfolding decided_check
returns c =
    let a = c.args in
    let x = c.in_ok-known in
    let f = a.proposing.asks.form in
    let s = letters_by f a.letters.now in
    let ok = checked-accepted limits.longest f s a.proposing.asks.cds a.proposing.asks.e x.known x.ensures.value in
    let held = protein_held limits.longest s a.proposing.asks.cds a.proposing.asks.e _ _ ok.0 x.ensures.protein_after in
    let same = ap (λ (f : Form). letters_by f a.letters.now) (form-known limits f s a.proposing.asks.cds a.proposing.asks.e x.known ok.0 ok.1) in
    let judged = c.judge_going in
    holds_cds s x.known.cds a.proposing.asks.cds a.proposing.asks.e (asked a.proposing.asks.edit a.new.now) (proposed a.proposing.number a.deleted.now a.inserted.now) (room_with a.transcript.now a.proposing.room a.altered.now) _ a.transcript.now _ a.proposing.room _ a.altered.now _
    (cds-known limits f s a.proposing.asks.cds a.proposing.asks.e x.known ok.0 ok.1)
    (holds s x.known a.proposing.asks.e _ (knows limits f s a.proposing.asks.cds a.proposing.asks.e x.known ok.0 ok.1 _ _ held (omega arith)) a.proposing.asks.edit a.new.now a.transcript.now a.proposing.room a.altered.now (proposed a.proposing.number a.deleted.now a.inserted.now) (given c.in_ok-plan.plan) (rw same at c.in_ok-plan.ensures) _ refl (residues-within limits f s a.proposing.asks.cds a.proposing.asks.e x.known ok.0 ok.1 _ _ held) _ (rw same at judged.ensures.answer) _ _ (rw same at judged.ensures.transcript_after) (rw same at judged.ensures.altered_after))
