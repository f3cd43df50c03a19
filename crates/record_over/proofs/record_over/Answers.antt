-- `record_over::record_over` meets its contract.
-- Assumes nothing.
use mathlib.Core.Path.{refl, sym}
use native.Mathlib.Nat.{le_trans}
use native.Mathlib.Omega.{arith}
use lib.ListN.{length, take}
use lib.Seq.{length-take-le}
use Rattle.record_over.proofs.Seen.{empty-seen, silent-seen, front_fits, part_in, in-reference, end-in, lacks, differs, change-is}
use Rattle.record_over.proofs.record_over.Goals as goal

pub returns-then-long-eq0 : goal.returns-then-long-eq0
returns-then-long-eq0 c = let args = c.args in
    let pre = c.requires in
    let R = args.r.now in
    let M = take args.m args.out.now in
    let counted = sym (length-take-le args.m args.out.now pre.le_number.1) in
    let whole = empty-seen args.flag args.number args.head args.back args.m R M pre.joins counted c.if-long-eq0.true args.out.now in
    record { value = whole.0; inserted = whole.1 }

pub returns-then-s-r : goal.returns-then-s-r
returns-then-s-r c = let args = c.args in
    let pre = c.requires in
    let R = args.r.now in
    let M = take args.m args.out.now in
    let counted = sym (length-take-le args.m args.out.now pre.le_number.1) in
    let whole = silent-seen args.flag args.number args.head args.back args.m R M pre.joins counted c.if-long-eq0.false c.beginning_over-s.result c.beginning_over-s.ensures c.if-s-r.true c.byte_at-residue.result c.byte_at-residue.ensures args.out.now in
    record { value = whole.0; inserted = whole.1 }

pub residue_over-altered-requires : goal.residue_over-altered-requires
residue_over-altered-requires c = let args = c.args in
    let pre = c.requires in
    let R = args.r.now in
    let M = take args.m args.out.now in
    let counted = sym (length-take-le args.m args.out.now pre.le_number.1) in
    let fits = front_fits args.flag args.number args.head args.back args.m R M pre.joins counted c.if-long-eq0.false c.beginning_over-s.result c.beginning_over-s.ensures in
    record { joins = pre.joins; head_le_i = (fits.0, fits.2) }

pub overflow_sub-at : goal.overflow_sub-at
overflow_sub-at c = let args = c.args in
    let pre = c.requires in
    let R = args.r.now in
    let M = take args.m args.out.now in
    let counted = sym (length-take-le args.m args.out.now pre.le_number.1) in
    (front_fits args.flag args.number args.head args.back args.m R M pre.joins counted c.if-long-eq0.false c.beginning_over-s.result c.beginning_over-s.ensures).0

pub overflow_sub-end : goal.overflow_sub-end
overflow_sub-end c = let args = c.args in
    let pre = c.requires in
    let R = args.r.now in
    let M = take args.m args.out.now in
    let counted = sym (length-take-le args.m args.out.now pre.le_number.1) in
    (part_in args.flag args.number args.head args.back args.m R M pre.joins counted c.if-long-eq0.false c.beginning_over-s.result c.beginning_over-s.ensures c.if-s-r.false c.ending_over-n.result c.ending_over-n.ensures).2

pub overflow_sub-end-2 : goal.overflow_sub-end-2
overflow_sub-end-2 c = let args = c.args in
    let pre = c.requires in
    let R = args.r.now in
    let M = take args.m args.out.now in
    let counted = sym (length-take-le args.m args.out.now pre.le_number.1) in
    (part_in args.flag args.number args.head args.back args.m R M pre.joins counted c.if-long-eq0.false c.beginning_over-s.result c.beginning_over-s.ensures c.if-s-r.false c.ending_over-n.result c.ending_over-n.ensures).3

pub write_on-requires : goal.write_on-requires
write_on-requires c = let args = c.args in
    let pre = c.requires in
    let R = args.r.now in
    let M = take args.m args.out.now in
    let counted = sym (length-take-le args.m args.out.now pre.le_number.1) in
    let ends = end-in args.flag args.number args.head args.back args.m R M pre.joins counted c.if-long-eq0.false c.beginning_over-s.result c.beginning_over-s.ensures c.if-s-r.false c.ending_over-n.result c.ending_over-n.ensures in
    record { m_in_bounds = (pre.le_number.1, le_trans ends pre.out_in_bounds); r_in_bounds = lacks args.flag args.number args.head args.back args.m R M pre.joins counted c.if-long-eq0.false c.beginning_over-s.result c.beginning_over-s.ensures c.if-s-r.false c.ending_over-n.result c.ending_over-n.ensures }

pub overflow_sub-deleted : goal.overflow_sub-deleted
overflow_sub-deleted c = let args = c.args in
    let pre = c.requires in
    let R = args.r.now in
    let M = take args.m args.out.now in
    let counted = sym (length-take-le args.m args.out.now pre.le_number.1) in
    (front_fits args.flag args.number args.head args.back args.m R M pre.joins counted c.if-long-eq0.false c.beginning_over-s.result c.beginning_over-s.ensures).1

pub overflow_sub-deleted-2 : goal.overflow_sub-deleted-2
overflow_sub-deleted-2 c = let args = c.args in
    let pre = c.requires in
    let R = args.r.now in
    let M = take args.m args.out.now in
    let counted = sym (length-take-le args.m args.out.now pre.le_number.1) in
    let fits = in-reference args.flag args.number args.head args.back args.m R M pre.joins counted c.if-long-eq0.false c.beginning_over-s.result c.beginning_over-s.ensures c.if-s-r.false c.ending_over-n.result c.ending_over-n.ensures in
    omega arith

pub slice_bounds-change_over-count : goal.slice_bounds-change_over-count
slice_bounds-change_over-count c = let args = c.args in
    let pre = c.requires in
    let R = args.r.now in
    let M = take args.m args.out.now in
    let counted = sym (length-take-le args.m args.out.now pre.le_number.1) in
    (part_in args.flag args.number args.head args.back args.m R M pre.joins counted c.if-long-eq0.false c.beginning_over-s.result c.beginning_over-s.ensures c.if-s-r.false c.ending_over-n.result c.ending_over-n.ensures).0

pub slice_bounds-change_over-start : goal.slice_bounds-change_over-start
slice_bounds-change_over-start c = let args = c.args in
    let pre = c.requires in
    let R = args.r.now in
    let M = take args.m args.out.now in
    let counted = sym (length-take-le args.m args.out.now pre.le_number.1) in
    (part_in args.flag args.number args.head args.back args.m R M pre.joins counted c.if-long-eq0.false c.beginning_over-s.result c.beginning_over-s.ensures c.if-s-r.false c.ending_over-n.result c.ending_over-n.ensures).0

pub change_over-requires : goal.change_over-requires
change_over-requires c = let args = c.args in
    let pre = c.requires in
    let R = args.r.now in
    let M = take args.m args.out.now in
    let counted = sym (length-take-le args.m args.out.now pre.le_number.1) in
    let fits = front_fits args.flag args.number args.head args.back args.m R M pre.joins counted c.if-long-eq0.false c.beginning_over-s.result c.beginning_over-s.ensures in
    (fits.0, fits.1)

pub returns : goal.returns
returns c = let args = c.args in
    let pre = c.requires in
    let R = args.r.now in
    let M = take args.m args.out.now in
    let counted = sym (length-take-le args.m args.out.now pre.le_number.1) in
    let wrote = c.write_on in
    let fits = le_trans {k = length wrote.new.out} (end-in args.flag args.number args.head args.back args.m R M pre.joins counted c.if-long-eq0.false c.beginning_over-s.result c.beginning_over-s.ensures c.if-s-r.false c.ending_over-n.result c.ending_over-n.ensures) (rw wrote.auto.out pre.out_in_bounds) in
    let there = differs args.flag args.number args.head args.back args.m R M pre.joins counted c.if-long-eq0.false c.beginning_over-s.result c.beginning_over-s.ensures c.if-s-r.false c.ending_over-n.result c.ending_over-n.ensures wrote.new.out wrote.ensures fits _ _ refl c.residue_over-altered.ensures in
    let whole = change-is args.flag args.number args.head args.back args.m R M pre.joins counted c.if-long-eq0.false c.beginning_over-s.result c.beginning_over-s.ensures c.if-s-r.false c.ending_over-n.result c.ending_over-n.ensures wrote.new.out wrote.ensures fits c.change_over.result (c.change_over.ensures _ _ there) in
    record { value = whole.0; inserted = whole.1 }
