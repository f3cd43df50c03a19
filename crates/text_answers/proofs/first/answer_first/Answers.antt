-- `text_answers::first::answer_first` meets its contract. Assumes nothing.
use mathlib.Core.Path.{refl, sym, ◌∙◌}
use Rattle.text_answers.proofs.Checking.{opens_ended, opens-given, first-long, first-formless}
use Rattle.text_answers.proofs.first.answer_first.Goals as goal

pub returns-then-not-fits_line : goal.returns-then-not-fits_line
returns-then-not-fits_line c =
    let fits_line = c.fits_line in
    let if1 = c.if-not-fits_line in
    let refuse = c.refuse in
    let found = first-long _ (sym fits_line.ensures ∙ if1.true) in
    opens_ended _ _ _ _ _ _ _ _ _ _ found.0 found.1 refuse.ensures.phase_value refl refuse.ensures.size_value refuse.ensures.text_after

pub returns-in_default : goal.returns-in_default
returns-in_default c =
    let fits_line = c.fits_line in
    let if1 = c.if-not-fits_line in
    let parse-reference = c.parse_reference in
    let refuse2 = c.refuse-in_default in
    let found = first-formless _ (sym fits_line.ensures ∙ if1.false) _ parse-reference.ensures.result_value c.in_default.is in
    opens_ended _ _ _ _ _ _ _ _ _ _ found.0 found.1 refuse2.ensures.phase_value refl refuse2.ensures.size_value refuse2.ensures.text_after

pub returns : goal.returns
returns c =
    let fits_line = c.fits_line in
    let if1 = c.if-not-fits_line in
    let parse-reference = c.parse_reference in
    let answer-given = c.answer_given in
    opens-given _ (sym fits_line.ensures ∙ if1.false) _ parse-reference.ensures.result_value _ c.in-Some.is _ _ _ _ _ _ _ _ answer-given.ensures
