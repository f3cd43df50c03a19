-- `reuse::writing::write_resumed` meets its contract: a stop ends what is read, or the rest is copied behind it. Assumes nothing.
use mathlib.Core.Path.{◌≡◌, sym}
use mathlib.Core.List.{[]}
use lib.ListN.{length}
use lib.Seq.{length-take-le}
use Rattle.rules.specs.Bytes.{over}
use Rattle.rules.specs.Translation.{through_stop, folded_translated}
use borrow.Author.Rules.{rules}
use Rattle.reuse.proofs.Reusing.{read_fits, ended-long, ended-behind, ended-written, on-long, on_room, on-behind, on-written}
use Rattle.reuse.proofs.writing.write_resumed.Goals as goal

pub slice_bounds-ends_in_stop-end : goal.slice_bounds-ends_in_stop-end
slice_bounds-ends_in_stop-end c = let args = c.args in
    let pre = c.requires in
    let wrote = c.write_through_stop-walked in
    let m = folded_translated args.table [] args.seq.now in
    let counted : wrote.result.residues ≡ length (through_stop m) = rw pre.bare at wrote.ensures.residues_value in
    let written : wrote.new.out ≡ over (through_stop m) args.out.now = rw pre.bare at wrote.ensures.written in
    read_fits m args.rest.now args.out.now wrote.new.out wrote.result.residues counted written pre.room

pub slice_bounds-ends_in_stop-end-2 : goal.slice_bounds-ends_in_stop-end-2
slice_bounds-ends_in_stop-end-2 c = let args = c.args in
    let pre = c.requires in
    let wrote = c.write_through_stop-walked in
    let m = folded_translated args.table [] args.seq.now in
    let counted : wrote.result.residues ≡ length (through_stop m) = rw pre.bare at wrote.ensures.residues_value in
    let written : wrote.new.out ≡ over (through_stop m) args.out.now = rw pre.bare at wrote.ensures.written in
    sym (length-take-le wrote.result.residues _ (read_fits m args.rest.now args.out.now wrote.new.out wrote.result.residues counted written pre.room))

pub returns-then-ends_in_stop : goal.returns-then-ends_in_stop
returns-then-ends_in_stop c = let args = c.args in
    let pre = c.requires in
    let wrote = c.write_through_stop-walked in
    let m = folded_translated args.table [] args.seq.now in
    let counted : wrote.result.residues ≡ length (through_stop m) = rw pre.bare at wrote.ensures.residues_value in
    let written : wrote.new.out ≡ over (through_stop m) args.out.now = rw pre.bare at wrote.ensures.written in
    let ends = c.ends_in_stop in
    record { residues_value = ended-long m args.rest.now args.out.now wrote.new.out wrote.result.residues counted written pre.room ends.result ends.ensures c.if-ends_in_stop.true; looked = rw pre.bare at wrote.ensures.looked; behind = ended-behind m args.rest.now args.out.now wrote.new.out wrote.result.residues counted written pre.room ends.result ends.ensures c.if-ends_in_stop.true; written = ended-written m args.rest.now args.out.now wrote.new.out wrote.result.residues counted written pre.room ends.result ends.ensures c.if-ends_in_stop.true }

pub slice_bounds-copy-count : goal.slice_bounds-copy-count
slice_bounds-copy-count c = let args = c.args in
    let pre = c.requires in
    let wrote = c.write_through_stop-walked in
    let m = folded_translated args.table [] args.seq.now in
    let counted : wrote.result.residues ≡ length (through_stop m) = rw pre.bare at wrote.ensures.residues_value in
    let written : wrote.new.out ≡ over (through_stop m) args.out.now = rw pre.bare at wrote.ensures.written in
    read_fits m args.rest.now args.out.now wrote.new.out wrote.result.residues counted written pre.room

pub slice_bounds-copy-start : goal.slice_bounds-copy-start
slice_bounds-copy-start c = let args = c.args in
    let pre = c.requires in
    let wrote = c.write_through_stop-walked in
    let m = folded_translated args.table [] args.seq.now in
    let counted : wrote.result.residues ≡ length (through_stop m) = rw pre.bare at wrote.ensures.residues_value in
    let written : wrote.new.out ≡ over (through_stop m) args.out.now = rw pre.bare at wrote.ensures.written in
    let fits = read_fits m args.rest.now args.out.now wrote.new.out wrote.result.residues counted written pre.room in
    search rules

pub copy-more-requires : goal.copy-more-requires
copy-more-requires c = let args = c.args in
    let pre = c.requires in
    let wrote = c.write_through_stop-walked in
    let m = folded_translated args.table [] args.seq.now in
    let counted : wrote.result.residues ≡ length (through_stop m) = rw pre.bare at wrote.ensures.residues_value in
    let written : wrote.new.out ≡ over (through_stop m) args.out.now = rw pre.bare at wrote.ensures.written in
    let ends = c.ends_in_stop in
    on_room m args.rest.now args.out.now wrote.new.out wrote.result.residues counted written pre.room ends.result ends.ensures c.if-ends_in_stop.false

pub returns : goal.returns
returns c = let args = c.args in
    let pre = c.requires in
    let wrote = c.write_through_stop-walked in
    let m = folded_translated args.table [] args.seq.now in
    let counted : wrote.result.residues ≡ length (through_stop m) = rw pre.bare at wrote.ensures.residues_value in
    let written : wrote.new.out ≡ over (through_stop m) args.out.now = rw pre.bare at wrote.ensures.written in
    let ends = c.ends_in_stop in
    let copy = c.copy-more in
    record { residues_value = rw copy.ensures.count (on-long m args.rest.now args.out.now wrote.new.out wrote.result.residues counted written pre.room ends.result ends.ensures c.if-ends_in_stop.false); looked = rw pre.bare at wrote.ensures.looked; behind = rw copy.ensures.count (on-behind m args.rest.now args.out.now wrote.new.out wrote.result.residues counted written pre.room ends.result ends.ensures c.if-ends_in_stop.false); written = on-written m args.rest.now args.out.now wrote.new.out wrote.result.residues counted written pre.room ends.result ends.ensures c.if-ends_in_stop.false copy.new.dst copy.ensures.after }
