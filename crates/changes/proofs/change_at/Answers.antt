-- `changes::change_at` meets its contract.
-- Assumes nothing.
use native.Mathlib.Omega.{arith}
use Rattle.changes.proofs.Laws.{copied_before, is_change}
use Rattle.changes.proofs.change_at.Goals as goal

pub first_copied-first-requires : goal.first_copied-first-requires
first_copied-first-requires c = λ is.
    let args = c.args in
    let copy = c.check_if_ins_is_dup-copy in
    let class = c.class_of-class in
    let before = copied_before _ _ _ _ _ args.flag copy.result class.result args.r.now args.a.now copy.ensures class.ensures is in
    omega arith

pub returns : goal.returns
returns c = let args = c.args in
    let copy = c.check_if_ins_is_dup-copy in
    let in_r = c.byte_at in
    let in_a = c.byte_at-2 in
    let class = c.class_of-class in
    let first = c.first_copied-first in
    is_change args.flag args.s args.n args.r.now args.a.now
    copy.result in_r.result in_a.result class.result first.result
    copy.ensures in_r.ensures in_a.ensures class.ensures first.ensures
