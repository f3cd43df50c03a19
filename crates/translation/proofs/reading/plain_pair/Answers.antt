-- `translation::plain_pair` meets its contract. Assumes nothing.
use Prim.Native.Nat.{◌+◌}
use native.Mathlib.Omega.{arith}
use Rattle.places.proofs.Places.{place_read}
use Rattle.translation.proofs.reading.plain_pair.Goals as goal

pub returns : goal.returns
returns c = let args = c.args in
    let pair = c.pair_at-pair.ensures in
    (place_read args.table args.code.now args.seq.now args.i _ c.requires.holds_plain pair.result_value c.requires.bases (omega arith), place_read args.table args.code.now args.seq.now (args.i + 1) _ c.requires.holds_plain pair.second c.requires.bases (omega arith))
