-- `text_answers::edit::answer_edit` meets its contract. Assumes nothing.
use mathlib.Core.Path.{sym, ap, ◌∙◌}
use mathlib.Core.List.{List}
use mathlib.Core.Option.{some}
use Prim.Native.Nat.{ℕ, ◌-◌}
use native.Mathlib.Omega.{arith}
use lib.ListN.{length, take, drop}
use Rattle.rules.specs.Run.{refused_line, edit_answer}
use Rattle.rules.proofs.Over.{tail-is}
use Rattle.rules.specs.Views.{bare, asked}
use Rattle.text_prints.proofs.Sizes.{refused_size}
use Rattle.text_answers.specs.Stage.{answered}
use Rattle.text_answers.proofs.Asking.{line_of, line_as, edit-long, edit-formless, edit-asked}
use Rattle.text_answers.proofs.edit.answer_edit.Goals as goal

pub print_refusal-requires : goal.print_refusal-requires
print_refusal-requires c =
    let pre = c.requires in
    omega (arith, refused_size 30, pre.ample.for-transcript)

pub returns-then-not-fits_line : goal.returns-then-not-fits_line
unfolding answered
returns-then-not-fits_line c =
    let args = c.args in
    let fits_line = c.fits_line in
    let if1 = c.if-not-fits_line in
    let print-refusal = c.print_refusal in
    line_of _ (refused_line 30) _ _ _ (edit-long (bare args.letters.now args.known.cds) args.line.now (sym fits_line.ensures ∙ if1.true)) print-refusal.ensures.value print-refusal.ensures.out_after

pub print_refusal-requires-in_default : goal.print_refusal-requires-in_default
print_refusal-requires-in_default c =
    let pre = c.requires in
    omega (arith, refused_size 30, pre.ample.for-transcript)

pub returns-in_default : goal.returns-in_default
unfolding answered
returns-in_default c =
    let args = c.args in
    let fits_line = c.fits_line in
    let if1 = c.if-not-fits_line in
    let parse-edit = c.parse_edit in
    let print-refusal2 = c.print_refusal-in_default in
    line_of _ (refused_line 30) _ _ _ (edit-formless (bare args.letters.now args.known.cds) args.line.now (sym fits_line.ensures ∙ if1.false) parse-edit.result parse-edit.ensures.result_value c.in_default.is) print-refusal2.ensures.value print-refusal2.ensures.out_after

pub returns : goal.returns
unfolding answered
returns c =
    let args = c.args in
    let fits_line = c.fits_line in
    let if1 = c.if-not-fits_line in
    let parse-edit = c.parse_edit in
    let answer-asked = c.answer_asked in
    let r = bare args.letters.now args.known.cds in
    let e = c.in-Some.asked in
    line_as answer-asked.result _ _ (edit_answer r (some (asked e.edit (take (length args.line.now - e.at) (drop e.at args.line.now)))))
    (edit-asked r args.line.now (sym fits_line.ensures ∙ if1.false) parse-edit.result parse-edit.ensures.result_value e c.in-Some.is
    ∙ ap (λ (new : List ℕ). edit_answer r (some (asked e.edit new))) (sym (tail-is e.at args.line.now)))
    answer-asked.ensures
