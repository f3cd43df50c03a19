-- `text_verbs::is_arrow` meets its contract. Assumes nothing.
use native.Mathlib.Omega.{arith}
use Rattle.std.proofs.lemmas.Bool.Decides.{nat_tests}
use Rattle.text_verbs.proofs.Verbs.{arrow_by}
use Rattle.text_verbs.proofs.is_arrow.Goals as goal

pub returns-then-is_capital : goal.returns-then-is_capital
returns-then-is_capital c = grind (arith, nat_tests, arrow_by)

pub returns-else-is_capital : goal.returns-else-is_capital
returns-else-is_capital c = grind (arith, nat_tests, arrow_by)
