-- `fields::lookup::content_of` meets its contract. Assumes nothing.
use native.Mathlib.Omega.{arith}
use Rattle.fields.proofs.Places.{holds, missing, found, further}
use Rattle.fields.proofs.lookup.content_of.Goals as goal

pub returns : goal.returns
returns c =
    let a = c.args in
    missing a.tag a.s.now c.loop-met.at c.loop-met.invariant c.next_field.result c.next_field.ensures c.in_default.not-Whole

pub returns-then-met-tag : goal.returns-then-met-tag
returns-then-met-tag c =
    let a = c.args in
    found a.tag a.s.now c.loop-met.at c.loop-met.invariant c.next_field.result c.next_field.ensures _ _ c.in-Whole.is c.if-met-tag.true

pub overflow_add-at : goal.overflow_add-at
overflow_add-at c =
    let a = c.args in
    let w = holds a.s.now c.loop-met.at c.next_field.result c.next_field.ensures _ _ c.in-Whole.is in
    omega (arith, w.fits)

pub loop-met-smaller : goal.loop-met-smaller
loop-met-smaller c =
    let a = c.args in
    let w = holds a.s.now c.loop-met.at c.next_field.result c.next_field.ensures _ _ c.in-Whole.is in
    omega (arith, w.begins, w.fits)

pub loop-met-preserved : goal.loop-met-preserved
loop-met-preserved c =
    let a = c.args in
    further a.tag a.s.now c.loop-met.at c.loop-met.invariant c.next_field.result c.next_field.ensures _ _ c.in-Whole.is c.if-met-tag.false
