-- `altseq::answer::answer_in` meets its contract. Assumes nothing.
use mathlib.Core.Path.{sym, ap}
use native.Mathlib.Omega.{arith}
use lib.Seq.{length-take-le}
use Rattle.rules.specs.declared.Form.{Form}
use Rattle.rules.specs.Packed.{letters_by}
use Rattle.rules.specs.Refusal.{limits}
use Rattle.rules.specs.Views.{asked, reference_of}
use Rattle.reference.proofs.Judging.{exit-told}
use Rattle.reference.proofs.Checking.{checked_refused, checked-accepted, protein_held, cds-known, form-known, residues-within, knows}
use Rattle.altseq.proofs.Answering.{reference-refused}
use Rattle.altseq.proofs.Whole.{room_with, beside-whole, beside_cds}
use Rattle.altseq.proofs.answer.answer_in.Goals as goal

pub returns-in_err-known : goal.returns-in_err-known
returns-in_err-known c =
    let a = c.args in
    let s = letters_by a.asks.form a.letters.now in
    let no = checked_refused limits.longest a.asks.form s a.asks.cds a.asks.e _ c.in_err-known.ensures.value in
    rw (exit-told _ _ c.from_residual.ensures.1)
    (reference-refused limits (reference_of s a.asks.cds a.asks.e) (asked a.asks.edit a.new.now) (room_with a.transcript.now a.reference a.altered.now) _ a.reference a.transcript.now a.altered.now _ no.0 no.1)

pub slice_bounds-answer_beside-end : goal.slice_bounds-answer_beside-end
slice_bounds-answer_beside-end c =
    let a = c.args in
    let s = letters_by a.asks.form a.letters.now in
    let x = c.in_ok-known.ensures in
    let ok = checked-accepted limits.longest a.asks.form s a.asks.cds a.asks.e _ x.value in
    residues-within limits a.asks.form s a.asks.cds a.asks.e _ ok.0 ok.1 _ _ (protein_held limits.longest s a.asks.cds a.asks.e _ _ ok.0 x.protein_after)

pub slice_bounds-answer_beside-end-2 : goal.slice_bounds-answer_beside-end-2
slice_bounds-answer_beside-end-2 c =
    let a = c.args in
    let s = letters_by a.asks.form a.letters.now in
    let x = c.in_ok-known.ensures in
    let ok = checked-accepted limits.longest a.asks.form s a.asks.cds a.asks.e _ x.value in
    sym (length-take-le _ _ (residues-within limits a.asks.form s a.asks.cds a.asks.e _ ok.0 ok.1 _ _ (protein_held limits.longest s a.asks.cds a.asks.e _ _ ok.0 x.protein_after)))

pub answer_beside-requires : goal.answer_beside-requires
answer_beside-requires c =
    let a = c.args in
    let s = letters_by a.asks.form a.letters.now in
    let x = c.in_ok-known.ensures in
    let ok = checked-accepted limits.longest a.asks.form s a.asks.cds a.asks.e _ x.value in
    let same = ap (λ (f : Form). letters_by f a.letters.now) (form-known limits a.asks.form s a.asks.cds a.asks.e _ ok.0 ok.1) in
    rw same (knows limits a.asks.form s a.asks.cds a.asks.e _ ok.0 ok.1 _ _ (protein_held limits.longest s a.asks.cds a.asks.e _ _ ok.0 x.protein_after) (omega arith))

pub returns : goal.returns
returns c =
    let a = c.args in
    let s = letters_by a.asks.form a.letters.now in
    let x = c.in_ok-known.ensures in
    let k = c.in_ok-known.known in
    let ok = checked-accepted limits.longest a.asks.form s a.asks.cds a.asks.e k x.value in
    let same = ap (λ (f : Form). letters_by f a.letters.now) (form-known limits a.asks.form s a.asks.cds a.asks.e k ok.0 ok.1) in
    beside_cds s k.cds a.asks.cds a.asks.e (asked a.asks.edit a.new.now) (room_with a.transcript.now a.reference a.altered.now) _ _ a.reference a.transcript.now _ a.altered.now _
    (cds-known limits a.asks.form s a.asks.cds a.asks.e k ok.0 ok.1) (beside-whole _ _ k.residues _ _ _ _ _ _ (rw same at c.answer_beside.ensures))
