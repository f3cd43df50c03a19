-- `panel::answer::answer_in` meets its contract. Assumes nothing.
use mathlib.Core.Path.{sym, ap}
use native.Mathlib.Omega.{arith}
use lib.Seq.{length-take-le}
use Rattle.rules.specs.declared.Form.{Form}
use Rattle.rules.specs.Packed.{letters_by}
use Rattle.rules.specs.Refusal.{limits}
use Rattle.rules.specs.Views.{asked, reference_of, room_of}
use Rattle.reference.proofs.Checking.{checked_refused, checked-accepted, protein_held, cds-known, form-known, residues-within, knows}
use Rattle.panel.proofs.Answering.{reference-refused, answers-cds}
use Rattle.reference.proofs.Judging.{exit-told}
use Rattle.panel.proofs.answer.answer_in.Goals as goal

pub returns-in_err-known : goal.returns-in_err-known
returns-in_err-known c =
    let a = c.args in
    let s = letters_by a.asks.form a.letters.now in
    let no = checked_refused limits.longest a.asks.form s a.asks.cds a.asks.e _ c.in_err-known.ensures.value in
    rw (exit-told _ _ c.from_residual.ensures.1)
    (reference-refused limits (reference_of s a.asks.cds a.asks.e) (asked a.asks.edit a.new.now) a.named a.transcript.now a.reference.now a.altered.now _ no.0 no.1)

pub slice_bounds-answer_profiled-end : goal.slice_bounds-answer_profiled-end
slice_bounds-answer_profiled-end c =
    let a = c.args in
    let x = c.in_ok-known in
    let s = letters_by a.asks.form a.letters.now in
    let ok = checked-accepted limits.longest a.asks.form s a.asks.cds a.asks.e x.known x.ensures.value in
    let held = protein_held limits.longest s a.asks.cds a.asks.e _ _ ok.0 x.ensures.protein_after in
    residues-within limits a.asks.form s a.asks.cds a.asks.e x.known ok.0 ok.1 _ _ held

pub slice_bounds-answer_profiled-end-2 : goal.slice_bounds-answer_profiled-end-2
slice_bounds-answer_profiled-end-2 c =
    let a = c.args in
    let x = c.in_ok-known in
    let s = letters_by a.asks.form a.letters.now in
    let ok = checked-accepted limits.longest a.asks.form s a.asks.cds a.asks.e x.known x.ensures.value in
    let held = protein_held limits.longest s a.asks.cds a.asks.e _ _ ok.0 x.ensures.protein_after in
    sym (length-take-le x.known.residues _ (residues-within limits a.asks.form s a.asks.cds a.asks.e x.known ok.0 ok.1 _ _ held))

pub answer_profiled-requires : goal.answer_profiled-requires
answer_profiled-requires c =
    let a = c.args in
    let x = c.in_ok-known in
    let s = letters_by a.asks.form a.letters.now in
    let ok = checked-accepted limits.longest a.asks.form s a.asks.cds a.asks.e x.known x.ensures.value in
    let held = protein_held limits.longest s a.asks.cds a.asks.e _ _ ok.0 x.ensures.protein_after in
    let same = ap (λ (f : Form). letters_by f a.letters.now) (form-known limits a.asks.form s a.asks.cds a.asks.e x.known ok.0 ok.1) in
    rw same (knows limits a.asks.form s a.asks.cds a.asks.e x.known ok.0 ok.1 _ _ held (omega arith))

pub returns : goal.returns
returns c =
    let a = c.args in
    let x = c.in_ok-known in
    let s = letters_by a.asks.form a.letters.now in
    let ok = checked-accepted limits.longest a.asks.form s a.asks.cds a.asks.e x.known x.ensures.value in
    let same = ap (λ (f : Form). letters_by f a.letters.now) (form-known limits a.asks.form s a.asks.cds a.asks.e x.known ok.0 ok.1) in
    answers-cds s x.known.cds a.asks.cds a.asks.e (asked a.asks.edit a.new.now) a.named (room_of a.transcript.now a.reference.now a.altered.now) _ a.transcript.now _ a.reference.now _ a.altered.now _
    (cds-known limits a.asks.form s a.asks.cds a.asks.e x.known ok.0 ok.1) (rw same at c.answer_profiled.ensures)
