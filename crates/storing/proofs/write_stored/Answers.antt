-- `storing::write_stored` meets its contract. Assumes nothing.
use mathlib.Core.Path.{◌∙◌}
use native.Mathlib.Omega.{arith}
use Rattle.rules.specs.Packed.{letters_by}
use Rattle.reference.proofs.Judging.{exit-told}
use Rattle.storing.proofs.Forms.{numbers}
use Rattle.storing.proofs.Answering.{is-clear, has_room, answers-refused, answers-short, answers-written}
use Rattle.storing.proofs.write_stored.Goals as goal

pub returns-in_err-judge_reference : goal.returns-in_err-judge_reference
returns-in_err-judge_reference c =
    let a = c.args in
    let whole = answers-refused (letters_by a.form a.letters.now) a.cds a.e _ a.out.now c.in_err-judge_reference.ensures in
    record { value = exit-told _ _ c.from_residual.ensures.1 ∙ whole.0; out_after = whole.1 }

pub form_length-requires : goal.form_length-requires
form_length-requires c =
    let a = c.args in
    let s = (letters_by a.form a.letters.now) in
    let n = numbers s a.cds a.e (is-clear s a.cds a.e _ c.in_ok-judge_reference.ensures) in
    (omega (arith, c.size_of.ensures, n.size), n.count)

pub returns-then-out-form_length : goal.returns-then-out-form_length
returns-then-out-form_length c =
    let a = c.args in
    let s = (letters_by a.form a.letters.now) in
    let size = c.size_of in
    let f = c.form_length in
    let whole = answers-short s a.cds a.e (is-clear s a.cds a.e _ c.in_ok-judge_reference.ensures) size.result f.result size.ensures f.ensures a.out.now (omega arith) in
    record { value = whole.0; out_after = whole.1 }

pub write_form-requires : goal.write_form-requires
write_form-requires c =
    let a = c.args in
    let s = (letters_by a.form a.letters.now) in
    let size = c.size_of in
    let f = c.form_length in
    let clear = is-clear s a.cds a.e _ c.in_ok-judge_reference.ensures in
    record { clear = clear; e_in_bounds = has_room s a.cds a.e clear size.result f.result size.ensures f.ensures a.out.now (omega arith) }

pub returns : goal.returns
returns c =
    let a = c.args in
    let s = (letters_by a.form a.letters.now) in
    let size = c.size_of in
    let f = c.form_length in
    let w = c.write_form in
    let whole = answers-written s a.cds a.e (is-clear s a.cds a.e _ c.in_ok-judge_reference.ensures) size.result f.result size.ensures f.ensures a.out.now (omega arith) w.result w.new.out w.ensures.value w.ensures.out_after in
    record { value = whole.0; out_after = whole.1 }
