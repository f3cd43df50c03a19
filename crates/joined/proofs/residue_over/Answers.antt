-- `joined::residue_over` meets its contract.
-- Assumes nothing.
use native.Mathlib.Omega.{arith}
use Rattle.joined.proofs.Joining.{joined-long, residue-read, residue-behind}
use Rattle.joined.proofs.residue_over.Goals as goal

pub returns-then-at-m : goal.returns-then-at-m
returns-then-at-m c = let args = c.args in
    residue-read args.head args.back args.r.now args.m.now c.requires.joins args.i c.requires.head_le_i.0 c.if-at-m.true

pub overflow_add-back : goal.overflow_add-back
overflow_add-back c = let args = c.args in
    let long = joined-long args.head args.back args.r.now args.m.now c.requires.joins in
    let within = c.requires.joins.within in
    omega arith

pub returns : goal.returns
returns c = let args = c.args in
    residue-behind args.head args.back args.r.now args.m.now c.requires.joins args.i c.byte_at.result c.requires.head_le_i.0 c.if-at-m.false c.byte_at.ensures
