-- The invariant: the letters passed, with those to come, are all. Assumes nothing.
use native.Mathlib.Omega.{arith}
use borrow.Author.Rules.{rules}
use lib.ListN.{length-set}
use Rattle.vectors_calls.proofs.Rows.{laid_turn, laid_end}
use Rattle.vectors_calls.proofs.given_letters.lay.Goals as goal

pub loop-i-preserved : goal.loop-i-preserved
loop-i-preserved c = (
  search rules,
  c.loop-i.invariant.1,
  simp length-set c.loop-i.invariant.2,
  laid_turn c.loop-i.i c.letter_or.result c.args.letters.now c.loop-i.out _ (omega arith) (omega arith) c.letter_or.ensures c.loop-i.invariant.3,
)

pub returns : goal.returns
returns c = laid_end c.loop-i.i c.args.letters.now c.loop-i.out _ (omega arith) c.loop-i.invariant.3
