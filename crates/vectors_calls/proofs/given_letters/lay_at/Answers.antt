-- Assumes nothing.
use borrow.Author.Tests.{le-ltb}
use Rattle.vectors_calls.specs.Letters.{laid_at}
use Rattle.vectors_calls.proofs.Rows.{laid-part}
use Rattle.vectors_calls.proofs.given_letters.lay_at.Goals as goal

pub returns-then-at-out : goal.returns-then-at-out
returns-then-at-out c = laid-part c.args.at c.args.letters.now c.args.out.now _ c.if-at-out.true c.lay.ensures

pub returns-else-at-out : goal.returns-else-at-out
unfolding laid_at
returns-else-at-out c = simp (le-ltb _ _ c.if-at-out.false)
