-- `checks::answer::check_with_room` meets its contract. Assumes nothing.
use mathlib.Core.Path.{refl}
use Rattle.rules.specs.Bytes.{over}
use Rattle.rules.proofs.Over.{copied_as}
use Rattle.reference.proofs.Judging.{exit-told}
use Rattle.checks.specs.Checking.{reference_in}
use Rattle.checks.proofs.Whole.{copied}
use Rattle.checks.proofs.answer.check_with_room.Goals as goal

pub returns-in_err-verdict : goal.returns-in_err-verdict
unfolding reference_in over
returns-in_err-verdict g c = rw (exit-told _ _ c.from_residual.ensures.1) (copied _ _ _ _ _ _ _ _ _ _ c.in_err-verdict.ensures refl)

pub returns : goal.returns
unfolding reference_in
returns g c = copied _ _ _ _ _ _ _ _ _ _ c.in_ok-verdict.ensures (copied_as _ _ c.args.reference.now _ refl c.copy.ensures.after)
