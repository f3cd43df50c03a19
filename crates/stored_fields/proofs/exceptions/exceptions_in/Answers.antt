-- `stored_fields::exceptions::exceptions_in` meets its contract. Assumes nothing.
use native.Mathlib.Omega.{arith}
use Rattle.stored_fields.specs.Held.{counted}
use Rattle.stored_fields.proofs.Held.{uneven, many, none-held, one_more, all_held}
use Rattle.stored_fields.proofs.exceptions.exceptions_in.Goals as goal

pub returns-then-s-ne0 : goal.returns-then-s-ne0
unfolding counted
returns-then-s-ne0 c = rw c.none.ensures (uneven c.args.s.now c.if-s-ne0.true)

pub returns-then-count-gt16 : goal.returns-then-count-gt16
unfolding counted
returns-then-count-gt16 c = rw c.none.ensures (many c.args.s.now c.if-s-ne0.false c.if-count-gt16.true)

pub loop-i-init : goal.loop-i-init
loop-i-init c = rw c.none.ensures (none-held c.args.s.now)

pub loop-i-preserved : goal.loop-i-preserved
loop-i-preserved c =
    one_more c.args.s.now c.loop-i.i c.loop-i.all c.exception_at.result (omega arith) c.if-count-gt16.false c.loop-i.invariant c.exception_at.ensures

pub returns : goal.returns
returns c =
    all_held c.args.s.now c.loop-i.i c.loop-i.all c.if-s-ne0.false c.if-count-gt16.false (omega arith) c.loop-i.invariant
