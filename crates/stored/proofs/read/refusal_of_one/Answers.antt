-- `stored::read::refusal_of_one` meets its contract. Assumes nothing.
use mathlib.Core.Path.{ap, ◌∙◌}
use Rattle.rules.specs.Refusal.{limits}
use Rattle.reference.proofs.Judging.{exit_refusal}
use Rattle.stored_fields.specs.Held.{exceptions_of}
use Rattle.stored.proofs.Judged.{one_part, judged-refused, judged-clear}
use Rattle.stored.proofs.read.refusal_of_one.Goals as goal

pub returns-in_err-judge_reference : goal.returns-in_err-judge_reference
returns-in_err-judge_reference c =
    let a = c.args in
    exit_refusal _ _ c.from_residual.ensures.1
    ∙ judged-refused limits.longest a.s.now a.p c.requires.placed c.bytes_at-2.result.now c.exceptions_in-e.result (c.bytes_at-2.ensures ∙ one_part a.s.now a.p c.requires.placed c.requires.len_value) (c.exceptions_in-e.ensures ∙ ap exceptions_of c.bytes_at.ensures) _ c.in_err-judge_reference.ensures

pub returns : goal.returns
returns c =
    let a = c.args in
    judged-clear limits.longest a.s.now a.p c.requires.placed c.bytes_at-2.result.now c.exceptions_in-e.result (c.bytes_at-2.ensures ∙ one_part a.s.now a.p c.requires.placed c.requires.len_value) (c.exceptions_in-e.ensures ∙ ap exceptions_of c.bytes_at.ensures) _ c.in_ok-judge_reference.ensures
