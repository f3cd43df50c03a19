-- Assumes nothing.
use borrow.Author.Tests.{le-leb, lt-leb}
use Rattle.vectors_calls.specs.Fields.{with_digit}
use Rattle.vectors_calls.proofs.fields.with_digit.Goals as goal

pub returns-then-n-le1844674407370955160 : goal.returns-then-n-le1844674407370955160
unfolding with_digit
returns-then-n-le1844674407370955160 c = simp (le-leb _ _ c.if-n-le1844674407370955160.true)

pub returns-else-n-le1844674407370955160 : goal.returns-else-n-le1844674407370955160
unfolding with_digit
returns-else-n-le1844674407370955160 c = simp (lt-leb _ _ c.if-n-le1844674407370955160.false)
