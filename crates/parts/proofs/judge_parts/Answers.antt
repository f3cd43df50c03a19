-- `parts::judge_parts` meets its contract. Assumes nothing.
use mathlib.Core.Path.{sym, ◌∙◌}
use native.Mathlib.Omega.{arith}
use Rattle.rules.specs.Refusal.{limits}
use Rattle.reference.proofs.Judging.{readable, exit_refusal}
use Rattle.parts.specs.Parts.{in_parts}
use Rattle.parts.proofs.Judged.{refused-early, passed-early}
use Rattle.parts.proofs.judge_parts.Goals as goal

pub returns-in_err-early_refusal : goal.returns-in_err-early_refusal
returns-in_err-early_refusal c =
    let a = c.args in
    exit_refusal _ _ c.from_residual.ensures.1 ∙ refused-early limits.longest (in_parts a.a.now a.b.now a.c.now) a.cds a.e _ c.in_err-early_refusal.ensures

pub end_refusal-requires : goal.end_refusal-requires
end_refusal-requires c =
    let a = c.args in
    readable limits.longest (in_parts a.a.now a.b.now a.c.now) a.cds a.e (sym c.in_ok-early_refusal.ensures) (omega arith)

pub returns : goal.returns
returns c =
    let a = c.args in
    passed-early limits.longest (in_parts a.a.now a.b.now a.c.now) a.cds a.e c.end_refusal.result (sym c.in_ok-early_refusal.ensures) c.end_refusal.ensures
