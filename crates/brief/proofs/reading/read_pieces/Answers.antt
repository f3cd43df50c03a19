-- `brief::reading::read_pieces` meets its contract. Assumes nothing.
use Rattle.brief.proofs.Parted.{nothing_read}
use Rattle.brief.proofs.reading.read_pieces.Goals as goal

pub returns-then-pieces : goal.returns-then-pieces
returns-then-pieces c = let args = c.args in
    let whole = nothing_read args.letters.now args.known args.none args.plan args.new.now args.pieces args.coding.now args.out.now c.requires c.if-pieces.true in
    record { value = whole.0; out_after = whole.1 }
