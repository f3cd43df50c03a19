-- `text_verbs::are_capitals` meets its contract. Assumes nothing.
use native.Mathlib.Omega.{arith}
use borrow.Author.Rules.{rules}
use Rattle.std.proofs.lemmas.Bool.Decides.{nat_tests}
use Rattle.rules.specs.Bytes.{is_capital}
use Rattle.rules.specs.Line.{are_capitals}
use Rattle.text_verbs.proofs.are_capitals.Goals as goal

pub returns-then-not-is_empty : goal.returns-then-not-is_empty
unfolding are_capitals
returns-then-not-is_empty c = let e = c.all_bytes.ensures.value is_capital (search rules) in grind (arith, nat_tests, e)

pub returns-else-not-is_empty : goal.returns-else-not-is_empty
unfolding are_capitals
returns-else-not-is_empty c = grind (arith, nat_tests)
