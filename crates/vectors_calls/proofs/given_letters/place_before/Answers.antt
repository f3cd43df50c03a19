-- Assumes nothing.
use borrow.Author.Tests.{le-leb, lt-leb}
use Rattle.vectors_calls.specs.Letters.{place_before}
use Rattle.vectors_calls.proofs.given_letters.place_before.Goals as goal

pub returns-then-back-n : goal.returns-then-back-n
unfolding place_before
returns-then-back-n c = simp (le-leb _ _ c.if-back-n.true)

pub returns-else-back-n : goal.returns-else-back-n
unfolding place_before
returns-else-back-n c = simp (lt-leb _ _ c.if-back-n.false)
