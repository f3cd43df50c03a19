-- `brief::reading::write_both` meets its contract: a stop ends what is read, nothing follows, or the second part is read behind it. Assumes nothing.
use mathlib.Core.Path.{sym}
use native.Mathlib.Omega.{arith}
use borrow.Author.Rules.{rules}
use lib.Seq.{length-take-le}
use Rattle.brief.proofs.Parted.{first_walks, first_fits, stopped, second_walks, second-long, second_fits, second-written}
use Rattle.brief.proofs.reading.write_both.Goals as goal

pub write_through_stop-n-requires : goal.write_through_stop-n-requires
write_through_stop-n-requires c = let args = c.args in
    first_walks args.table args.plain args.touched.now args.own.now args.none args.out.now c.requires

pub slice_bounds-ends_in_stop-end : goal.slice_bounds-ends_in_stop-end
slice_bounds-ends_in_stop-end c = let args = c.args in
    first_fits args.table args.plain args.touched.now args.own.now args.none args.out.now c.requires c.write_through_stop-n.result.residues c.write_through_stop-n.new.out c.write_through_stop-n.ensures.residues_value c.write_through_stop-n.ensures.written

pub slice_bounds-ends_in_stop-end-2 : goal.slice_bounds-ends_in_stop-end-2
slice_bounds-ends_in_stop-end-2 c = let args = c.args in
    sym (length-take-le _ _ (first_fits args.table args.plain args.touched.now args.own.now args.none args.out.now c.requires c.write_through_stop-n.result.residues c.write_through_stop-n.new.out c.write_through_stop-n.ensures.residues_value c.write_through_stop-n.ensures.written))

pub returns-then-ends_in_stop : goal.returns-then-ends_in_stop
returns-then-ends_in_stop c = let args = c.args in
    let whole = stopped args.table args.plain args.touched.now args.own.now args.none args.out.now c.requires c.write_through_stop-n.result.residues c.write_through_stop-n.new.out c.write_through_stop-n.ensures.residues_value c.write_through_stop-n.ensures.written c.if-own-eq0.false c.ends_in_stop.result c.ends_in_stop.ensures c.if-ends_in_stop.true in
    record { value = whole.0; out_after = whole.1 }

pub slice_bounds-write_through_stop-count : goal.slice_bounds-write_through_stop-count
slice_bounds-write_through_stop-count c = let args = c.args in
    first_fits args.table args.plain args.touched.now args.own.now args.none args.out.now c.requires c.write_through_stop-n.result.residues c.write_through_stop-n.new.out c.write_through_stop-n.ensures.residues_value c.write_through_stop-n.ensures.written

pub slice_bounds-write_through_stop-start : goal.slice_bounds-write_through_stop-start
slice_bounds-write_through_stop-start c = let args = c.args in
    let fits = first_fits args.table args.plain args.touched.now args.own.now args.none args.out.now c.requires c.write_through_stop-n.result.residues c.write_through_stop-n.new.out c.write_through_stop-n.ensures.residues_value c.write_through_stop-n.ensures.written in
    search rules

pub write_through_stop-requires : goal.write_through_stop-requires
write_through_stop-requires c = let args = c.args in
    second_walks args.table args.plain args.touched.now args.own.now args.none args.out.now c.requires c.write_through_stop-n.result.residues c.write_through_stop-n.new.out c.write_through_stop-n.ensures.residues_value c.write_through_stop-n.ensures.written c.if-own-eq0.false c.ends_in_stop.result c.ends_in_stop.ensures c.if-ends_in_stop.false

pub overflow_add-result : goal.overflow_add-result
overflow_add-result c = let args = c.args in
    let fits = second_fits args.table args.plain args.touched.now args.own.now args.none args.out.now c.requires c.write_through_stop-n.result.residues c.write_through_stop-n.new.out c.write_through_stop-n.ensures.residues_value c.write_through_stop-n.ensures.written c.if-own-eq0.false c.ends_in_stop.result c.ends_in_stop.ensures c.if-ends_in_stop.false c.write_through_stop.result.residues c.write_through_stop.ensures.residues_value in
    omega arith

pub returns : goal.returns
returns c = let args = c.args in
    record { value = second-long args.table args.plain args.touched.now args.own.now args.none args.out.now c.requires c.write_through_stop-n.result.residues c.write_through_stop-n.new.out c.write_through_stop-n.ensures.residues_value c.write_through_stop-n.ensures.written c.if-own-eq0.false c.ends_in_stop.result c.ends_in_stop.ensures c.if-ends_in_stop.false c.write_through_stop.result.residues c.write_through_stop.ensures.residues_value; out_after = second-written args.table args.plain args.touched.now args.own.now args.none args.out.now c.requires c.write_through_stop-n.result.residues c.write_through_stop-n.new.out c.write_through_stop-n.ensures.residues_value c.write_through_stop-n.ensures.written c.if-own-eq0.false c.ends_in_stop.result c.ends_in_stop.ensures c.if-ends_in_stop.false c.write_through_stop.new.out c.write_through_stop.ensures.written }
