-- The invariant: as many bytes stand before the next one, counted from the line's place or from here. Assumes nothing.
use native.Mathlib.Omega.{arith}
use borrow.Author.Rules.{rules}
use Rattle.vectors_calls.proofs.Lines.{before_more, before_here, before-end}
use Rattle.vectors_calls.proofs.fields.end_of.Goals as goal

pub returns-then-s-i : goal.returns-then-s-i
returns-then-s-i c = record { value = omega (arith, before_here c.args.b c.args.s.now c.loop-i.i c.loop-i-test.true c.if-s-i.true); within = search rules }

pub loop-i-preserved : goal.loop-i-preserved
loop-i-preserved c = (search rules, omega (arith, before_more c.args.b c.args.s.now c.loop-i.i c.loop-i-test.true c.if-s-i.false))

pub returns : goal.returns
returns c = record { value = omega (arith, before-end c.args.b c.args.s.now c.loop-i.i c.loop-i-test.false); within = search rules }
