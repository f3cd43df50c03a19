-- The invariant: the exceptions stored, with those to come, are all. Assumes nothing.
use mathlib.Core.Path.{refl}
use native.Mathlib.Omega.{arith}
use borrow.Author.Rules.{rules}
use lib.ListN.{length-set}
use Rattle.vectors_calls.proofs.Rows.{stored-start, stored-turn, all-stored}
use Rattle.vectors_calls.proofs.given_exceptions.exceptions_of.Goals as goal

pub loop-i-init : goal.loop-i-init
loop-i-init c = (search rules, c.min-stored.ensures, refl, stored-start c.args.line.now c.args.first c.args.count c.min-stored.result c.min-stored.ensures)

pub loop-i-preserved : goal.loop-i-preserved
loop-i-preserved c = (
  search rules,
  c.loop-i.invariant.1,
  simp length-set c.loop-i.invariant.2,
  stored-turn c.args.line.now c.args.first c.args.count c.loop-i.i c.min-stored.result c.exception_at.result c.loop-i.all _
      c.loop-i-test.true (omega arith) c.exception_at.ensures c.loop-i.invariant.3,
)

pub returns : goal.returns
returns c = all-stored c.args.line.now c.args.first c.args.count c.loop-i.i c.min-stored.result c.loop-i.all (omega arith) c.loop-i.invariant.3
