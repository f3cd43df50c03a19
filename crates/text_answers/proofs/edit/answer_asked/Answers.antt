-- `text_answers::edit::answer_asked` meets its contract. Assumes nothing.
use mathlib.Core.Path.{ap}
use native.Mathlib.Omega.{arith}
use Rattle.rules.specs.declared.Form.{Form}
use Rattle.rules.specs.Refusals.{refusal_number}
use Rattle.rules.specs.Translation.{no_exceptions}
use Rattle.rules.specs.Packed.{letters_by}
use Rattle.rules.specs.Run.{record_line}
use Rattle.rules.specs.Line.{text_limits}
use Rattle.reference.proofs.Checking.{checks}
use Rattle.text_prints.proofs.Sizes.{refused_size}
use Rattle.text_answers.proofs.Asking.{line_of, line_as, asked-refused, asked-unknown, asked-carries, asked-goes}
use Rattle.text_answers.proofs.edit.answer_asked.Goals as goal

pub decide-requires : goal.decide-requires
decide-requires c =
    let same = ap (λ (f : Form). letters_by f c.args.letters.now) c.requires.knows_text.form in
    record { checks = rw same (checks text_limits _ _ no_exceptions _ c.requires.knows_text.known); most_bound = omega arith }

pub print_refusal-requires : goal.print_refusal-requires
print_refusal-requires c = omega (arith, refused_size (refusal_number c.in-Err.refusal), c.requires.ample.for-transcript)

pub print_record-requires : goal.print_record-requires
unfolding record_line
print_record-requires c = omega (arith, c.requires.ample.for-transcript)

pub answer_plan-requires : goal.answer_plan-requires
answer_plan-requires c =
    let same = ap (λ (f : Form). letters_by f c.args.letters.now) c.requires.knows_text.form in
    let pre = c.requires in
    record { carries = asked-carries _ _ _ pre.knows_text.known _ _ _ (rw (c.in-Ok-Some.field-0-is, same) at c.in-Ok-Some.ensures) _ _ pre.ample; knows_text = pre.knows_text; ample = pre.ample }

pub returns-in-Err : goal.returns-in-Err
returns-in-Err c =
    let same = ap (λ (f : Form). letters_by f c.args.letters.now) c.requires.knows_text.form in
    let print-refusal = c.print_refusal in
    line_of _ _ _ _ _ (asked-refused _ _ _ c.requires.knows_text.known _ _ _ (rw same at c.in-Err.ensures)) print-refusal.ensures.value print-refusal.ensures.out_after

pub returns-in-Ok-None : goal.returns-in-Ok-None
returns-in-Ok-None c =
    let same = ap (λ (f : Form). letters_by f c.args.letters.now) c.requires.knows_text.form in
    let print-record = c.print_record in
    line_of _ _ _ _ _ (asked-unknown _ _ _ c.requires.knows_text.known _ _ (rw (c.in-Ok-None.field-0-is, same) at c.in-Ok-None.ensures)) print-record.ensures.value print-record.ensures.out_after

pub returns-in-Ok-Some : goal.returns-in-Ok-Some
returns-in-Ok-Some c =
    let same = ap (λ (f : Form). letters_by f c.args.letters.now) c.requires.knows_text.form in
    line_as _ _ _ _ (asked-goes _ _ _ c.requires.knows_text.known _ _ _ (rw (c.in-Ok-Some.field-0-is, same) at c.in-Ok-Some.ensures)) c.answer_plan.ensures
