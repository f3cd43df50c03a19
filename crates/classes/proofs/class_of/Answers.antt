-- `classes::class_of` meets its contract: at each answer the definition's tests compute.
-- Assumes nothing.
use native.Mathlib.Omega.{arith}
use Rattle.std.proofs.lemmas.Bool.Decides.{nat_tests}
use Rattle.rules.specs.Record.{class_by}
use Rattle.classes.proofs.class_of.Goals as goal

pub returns-then-number-eq1 : goal.returns-then-number-eq1
unfolding class_by
returns-then-number-eq1 c = grind (arith, nat_tests)

pub returns-then-reference-eq42 : goal.returns-then-reference-eq42
unfolding class_by
returns-then-reference-eq42 c = grind (arith, nat_tests)

pub returns-then-altered-eq42 : goal.returns-then-altered-eq42
unfolding class_by
returns-then-altered-eq42 c = grind (arith, nat_tests)

pub returns-then-flag : goal.returns-then-flag
unfolding class_by
returns-then-flag c = grind (arith, nat_tests)

pub returns : goal.returns
unfolding class_by
returns c = grind (arith, nat_tests)
