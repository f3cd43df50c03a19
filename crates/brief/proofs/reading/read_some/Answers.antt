-- `brief::reading::read_some` meets its contract. Assumes nothing.
use mathlib.Core.Path.{sym, ap, ◌∙◌}
use mathlib.Core.List.{List, []}
use Prim.Native.Nat.{ℕ}
use native.Mathlib.Omega.{arith}
use lib.ListN.{length}
use lib.Seq.{length-take-le}
use Rattle.rules.specs.Bytes.{over}
use Rattle.rules.specs.Translation.{through_stop, folded_translated}
use Rattle.brief.proofs.Parted.{edge-fits, edge-touches, own-fits, touched-fits, follows, read_is}
use Rattle.brief.proofs.reading.read_some.Goals as goal

pub write_touched-n-requires : goal.write_touched-n-requires
write_touched-n-requires c = let args = c.args in
    record { touches = edge-touches args.letters.now args.known args.none args.plan args.new.now args.pieces args.coding.now args.out.now c.requires.spans c.requires.some_read c.edge_of-edge.result c.edge_of-edge.ensures; start_in_bounds = (edge-fits args.letters.now args.known args.none args.plan args.new.now args.pieces args.coding.now args.out.now c.requires.spans c.requires.some_read c.edge_of-edge.result c.edge_of-edge.ensures).2 }

pub overflow_sub-at : goal.overflow_sub-at
overflow_sub-at c = let args = c.args in
    (edge-fits args.letters.now args.known args.none args.plan args.new.now args.pieces args.coding.now args.out.now c.requires.spans c.requires.some_read c.edge_of-edge.result c.edge_of-edge.ensures).0

pub overflow_add-at : goal.overflow_add-at
overflow_add-at c = let args = c.args in
    let fits = own-fits args.letters.now args.known args.none args.plan args.new.now args.pieces args.coding.now args.out.now c.requires.spans c.requires.some_read c.edge_of-edge.result c.edge_of-edge.ensures in
    omega (arith, fits.0, fits.1)

pub slice_bounds-write_both-end : goal.slice_bounds-write_both-end
slice_bounds-write_both-end c = let args = c.args in
    touched-fits args.letters.now args.known args.none args.plan args.new.now args.pieces args.coding.now args.out.now c.requires.spans c.requires.some_read c.edge_of-edge.result c.edge_of-edge.ensures c.write_touched-n.result c.write_touched-n.new.out c.write_touched-n.ensures.value c.write_touched-n.ensures.out_after

pub slice_bounds-write_both-end-2 : goal.slice_bounds-write_both-end-2
slice_bounds-write_both-end-2 c = let args = c.args in
    sym (length-take-le _ _ (touched-fits args.letters.now args.known args.none args.plan args.new.now args.pieces args.coding.now args.out.now c.requires.spans c.requires.some_read c.edge_of-edge.result c.edge_of-edge.ensures c.write_touched-n.result c.write_touched-n.new.out c.write_touched-n.ensures.value c.write_touched-n.ensures.out_after))

pub slice_bounds-write_both-count : goal.slice_bounds-write_both-count
slice_bounds-write_both-count c = let args = c.args in
    (own-fits args.letters.now args.known args.none args.plan args.new.now args.pieces args.coding.now args.out.now c.requires.spans c.requires.some_read c.edge_of-edge.result c.edge_of-edge.ensures).0

pub slice_bounds-write_both-start : goal.slice_bounds-write_both-start
slice_bounds-write_both-start c = let args = c.args in
    (own-fits args.letters.now args.known args.none args.plan args.new.now args.pieces args.coding.now args.out.now c.requires.spans c.requires.some_read c.edge_of-edge.result c.edge_of-edge.ensures).0

pub write_both-requires : goal.write_both-requires
write_both-requires c = let args = c.args in
    follows args.letters.now args.known args.none args.plan args.new.now args.pieces args.coding.now args.out.now c.requires.spans c.requires.some_read c.edge_of-edge.result c.edge_of-edge.ensures c.write_touched-n.result c.write_touched-n.new.out c.write_touched-n.ensures.value c.write_touched-n.ensures.out_after c.all_bases.result c.all_bases.ensures

pub returns : goal.returns
returns c = let args = c.args in
    let read = read_is args.letters.now args.known args.none args.plan args.new.now args.pieces args.coding.now args.out.now c.requires.spans c.requires.some_read c.edge_of-edge.result c.edge_of-edge.ensures c.write_touched-n.result c.write_touched-n.new.out c.write_touched-n.ensures.value c.write_touched-n.ensures.out_after in
    let both = c.write_both in
    record { value = both.ensures.value ∙ ap (λ (l : List ℕ). length (through_stop (folded_translated args.known.cds.table [] l))) read; out_after = both.ensures.out_after ∙ ap (λ (l : List ℕ). over (through_stop (folded_translated args.known.cds.table [] l)) args.out.now) read }
