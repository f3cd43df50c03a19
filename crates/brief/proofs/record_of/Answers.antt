-- `brief::record_of` meets its contract. Assumes nothing.
use mathlib.Core.Path.{refl, sym, ap, ap₂, ◌∙◌}
use lib.Seq.{length-take-le}
use Rattle.record.specs.Joined.{seen_from, inserted_of}
use Rattle.reuse.specs.declared.pieces.Pieces.{Pieces}
use Rattle.altseq.proofs.Carrying.{silent-some}
use Rattle.brief.proofs.Recording.{bounded, placed, spans, read_fits, joins, room, found-is, altered-is}
use Rattle.brief.proofs.record_of.Goals as goal

pub pieces_of-pieces-requires : goal.pieces_of-pieces-requires
pieces_of-pieces-requires c = let args = c.args in
    record { bounded = bounded args.letters.now args.known args.none args.protein.now args.plan args.new.now args.coding.now args.altered.now c.requires.carries c.requires.count_value _ refl; placed = placed args.letters.now args.known args.none args.protein.now args.plan args.new.now args.coding.now args.altered.now c.requires.carries c.requires.count_value _ refl }

pub read_pieces-m-requires : goal.read_pieces-m-requires
read_pieces-m-requires c = let args = c.args in
    spans args.letters.now args.known args.none args.protein.now args.plan args.new.now args.coding.now args.altered.now c.requires.carries c.requires.count_value c.pieces_of-pieces.result c.pieces_of-pieces.ensures

pub slice_bounds-back_of-end : goal.slice_bounds-back_of-end
slice_bounds-back_of-end c = let args = c.args in
    read_fits args.letters.now args.known args.none args.protein.now args.plan args.new.now args.coding.now args.altered.now c.requires.carries c.requires.count_value c.pieces_of-pieces.result c.pieces_of-pieces.ensures c.read_pieces-m.result c.read_pieces-m.new.out c.read_pieces-m.ensures.value c.read_pieces-m.ensures.out_after

pub slice_bounds-back_of-end-2 : goal.slice_bounds-back_of-end-2
slice_bounds-back_of-end-2 c = let args = c.args in
    sym (length-take-le _ _ (read_fits args.letters.now args.known args.none args.protein.now args.plan args.new.now args.coding.now args.altered.now c.requires.carries c.requires.count_value c.pieces_of-pieces.result c.pieces_of-pieces.ensures c.read_pieces-m.result c.read_pieces-m.new.out c.read_pieces-m.ensures.value c.read_pieces-m.ensures.out_after))

pub record_over-requires : goal.record_over-requires
record_over-requires c = let args = c.args in
    record { le_number = (silent-some args.letters.now args.known args.none args.protein.now args.plan args.new.now args.coding.now args.altered.now c.requires.carries, read_fits args.letters.now args.known args.none args.protein.now args.plan args.new.now args.coding.now args.altered.now c.requires.carries c.requires.count_value c.pieces_of-pieces.result c.pieces_of-pieces.ensures c.read_pieces-m.result c.read_pieces-m.new.out c.read_pieces-m.ensures.value c.read_pieces-m.ensures.out_after); joins = joins args.letters.now args.known args.none args.protein.now args.plan args.new.now args.coding.now args.altered.now c.requires.carries c.requires.count_value c.pieces_of-pieces.result c.pieces_of-pieces.ensures c.read_pieces-m.result c.read_pieces-m.new.out c.read_pieces-m.ensures.value c.read_pieces-m.ensures.out_after c.back_of-back.result c.back_of-back.ensures; out_in_bounds = room args.letters.now args.known args.none args.protein.now args.plan args.new.now args.coding.now args.altered.now c.requires.carries c.requires.count_value c.pieces_of-pieces.result c.pieces_of-pieces.ensures c.read_pieces-m.result c.read_pieces-m.new.out c.read_pieces-m.ensures.value c.read_pieces-m.ensures.out_after c.back_of-back.result c.back_of-back.ensures }

pub returns : goal.returns
returns c = let args = c.args in
    let found = found-is args.letters.now args.known args.none args.protein.now args.plan args.new.now args.coding.now args.altered.now c.requires.carries c.requires.count_value c.pieces_of-pieces.result c.pieces_of-pieces.ensures c.read_pieces-m.result c.read_pieces-m.new.out c.read_pieces-m.ensures.value c.read_pieces-m.ensures.out_after c.back_of-back.result c.back_of-back.ensures in
    let altered = altered-is args.letters.now args.known args.none args.protein.now args.plan args.new.now args.coding.now args.altered.now c.requires.carries c.requires.count_value c.pieces_of-pieces.result c.pieces_of-pieces.ensures c.read_pieces-m.result c.read_pieces-m.new.out c.read_pieces-m.ensures.value c.read_pieces-m.ensures.out_after c.back_of-back.result c.back_of-back.ensures in
    record { value = c.record_over.ensures.value ∙ ap₂ seen_from (ap (λ (q : Pieces). q.head) c.pieces_of-pieces.ensures) found; inserted = c.record_over.ensures.inserted ∙ ap₂ inserted_of found altered }
