-- `fields::reader::field_at` meets its contract. Assumes nothing.
use native.Mathlib.Omega.{arith}
use Rattle.fields.proofs.Cases.{none, short, whole, cut}
use Rattle.fields.proofs.reader.field_at.Goals as goal

pub returns-then-s-at : goal.returns-then-s-at
returns-then-s-at c = none _ _ c.if-s-at.true

pub returns-then-s-at-lt3 : goal.returns-then-s-at-lt3
returns-then-s-at-lt3 c = short _ _ c.if-s-at.false c.if-s-at-lt3.true

pub returns-then-len-s : goal.returns-then-len-s
returns-then-len-s c = let a = c.args in
    whole a.s.now a.at (omega (arith, c.if-s-at.false, c.if-s-at-lt3.false)) _ c.two_bytes-len.ensures c.if-len-s.true

pub returns-else-len-s : goal.returns-else-len-s
returns-else-len-s c = let a = c.args in
    cut a.s.now a.at (omega (arith, c.if-s-at.false, c.if-s-at-lt3.false)) _ c.two_bytes-len.ensures c.if-len-s.false
