-- The invariant: those counted, with those to come, are all. Assumes nothing.
use native.Mathlib.Omega.{arith}
use borrow.Author.Rules.{rules}
use Rattle.vectors_plain.proofs.Rows.{count-more, count_less, count-end}
use Rattle.vectors_plain.proofs.plain.count_of.Goals as goal
use Rattle.vectors_plain.proofs.plain.count_of.Goals.{then-s-i, else-s-i}

pub loop-i-preserved : goal.loop-i-preserved
loop-i-preserved c =
    elim c.if-s-i.branch [
      | then-s-i w ↦ (search rules, omega arith, omega (arith, count-more c.args.b c.args.s.now c.loop-i.i c.loop-i-test.true w.if-s-i.true, c.loop-i.invariant.2))
      | else-s-i w ↦ (search rules, omega arith, omega (arith, count_less c.args.b c.args.s.now c.loop-i.i c.loop-i-test.true w.if-s-i.false, c.loop-i.invariant.2))
    ]

pub returns : goal.returns
returns c = omega (arith, count-end c.args.b c.args.s.now c.loop-i.i c.loop-i-test.false, c.loop-i.invariant.2)
