-- `classes::class_by_counts` meets its contract: at each answer the definition's tests compute.
-- Assumes nothing.
use native.Mathlib.Omega.{arith}
use Rattle.std.proofs.lemmas.Bool.Decides.{nat_tests}
use Rattle.rules.specs.Record.{class_by_counts}
use Rattle.classes.proofs.class_by_counts.Goals as goal

pub returns-then-deleted-eq1 : goal.returns-then-deleted-eq1
unfolding class_by_counts
returns-then-deleted-eq1 c = grind (arith, nat_tests)

pub returns-then-inserted-eq0 : goal.returns-then-inserted-eq0
unfolding class_by_counts
returns-then-inserted-eq0 c = grind (arith, nat_tests)

pub returns-then-copy : goal.returns-then-copy
unfolding class_by_counts
returns-then-copy c = grind (arith, nat_tests)

pub returns-else-copy : goal.returns-else-copy
unfolding class_by_counts
returns-else-copy c = grind (arith, nat_tests)

pub returns-else-deleted-eq0 : goal.returns-else-deleted-eq0
unfolding class_by_counts
returns-else-deleted-eq0 c = grind (arith, nat_tests)
