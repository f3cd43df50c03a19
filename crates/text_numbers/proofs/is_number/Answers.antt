-- `text_numbers::is_number` meets its contract. Assumes nothing.
use Rattle.std.proofs.lemmas.Bool.Decides.{nat_tests}
use native.Mathlib.Omega.{arith}
use Rattle.rules.specs.Number.{is_number}
use Rattle.text_numbers.proofs.is_number.Goals as goal

pub returns-then-n-eq1 : goal.returns-then-n-eq1
unfolding is_number
returns-then-n-eq1 c = grind (arith, nat_tests)

pub returns-else-n-eq1 : goal.returns-else-n-eq1
unfolding is_number
returns-else-n-eq1 c = grind (arith, nat_tests)

pub returns-else-n-le-MOST_DIGITS : goal.returns-else-n-le-MOST_DIGITS
unfolding is_number
returns-else-n-le-MOST_DIGITS c = grind (arith, nat_tests)
