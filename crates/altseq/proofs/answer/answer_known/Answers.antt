-- `altseq::answer::answer_known` meets its contract. Assumes nothing.
use mathlib.Core.Path.{refl}
use Rattle.rules.specs.Bytes.{over}
use Rattle.rules.proofs.Over.{copied_as}
use Rattle.reference.proofs.Judging.{exit-told}
use Rattle.altseq.specs.Decided.{reference_in}
use Rattle.altseq.proofs.Whole.{beside_copied}
use Rattle.altseq.proofs.answer.answer_known.Goals as goal

pub returns-in_err-report : goal.returns-in_err-report
unfolding reference_in over
returns-in_err-report c = rw (exit-told _ _ c.from_residual.ensures.1) (beside_copied _ _ _ _ _ _ _ _ _ _ c.in_err-report.ensures refl)

pub returns : goal.returns
unfolding reference_in
returns c = beside_copied _ _ _ _ _ _ _ _ _ _ c.in_ok-report.ensures (copied_as _ _ c.args.reference.now _ refl c.copy.ensures.after)
