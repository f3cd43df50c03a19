-- `bounds::fit_exceptions` meets its contract. The invariant: those left, behind the last one's codon, tell of all.
use mathlib.Core.Path.{sym, ◌∙◌}
use native.Mathlib.Omega.{arith}
use lib.ListN.{take}
use Rattle.bounds.proofs.Testing.{rising-on, rising-off, rising-end, too_many, few-rising}
use Rattle.bounds.proofs.fit_exceptions.Goals as goal

pub returns-then-e-gt16 : goal.returns-then-e-gt16
returns-then-e-gt16 c = too_many c.args.e c.args.most c.if-e-gt16.true

pub returns-then-not-is_exception : goal.returns-then-not-is_exception
returns-then-not-is_exception c =
    let e = c.args.e in
    let v = c.loop-x in
    let off = rising-off v.last c.args.most (take e.count e.all) v.x-index c.loop-x-test.true (sym c.if-not-is_exception.ensures) in
    sym (few-rising e c.args.most (omega arith) c.if-e-gt16.false ∙ sym v.invariant ∙ off)

pub loop-x-preserved : goal.loop-x-preserved
loop-x-preserved c =
    let e = c.args.e in
    let v = c.loop-x in
    rising-on v.last c.args.most (take e.count e.all) v.x-index c.loop-x-test.true (sym c.if-not-is_exception.ensures) ∙ v.invariant

pub returns : goal.returns
returns c =
    let e = c.args.e in
    let v = c.loop-x in
    sym (few-rising e c.args.most (omega arith) c.if-e-gt16.false ∙ sym v.invariant ∙ rising-end v.last c.args.most (take e.count e.all) v.x-index c.loop-x-test.false)
