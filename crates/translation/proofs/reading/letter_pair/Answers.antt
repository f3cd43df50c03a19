-- `translation::letter_pair` meets its contract. Assumes nothing.
use Prim.Native.Nat.{◌+◌}
use native.Mathlib.Omega.{arith}
use Rattle.places.proofs.Entries.{entry_read}
use Rattle.translation.proofs.reading.letter_pair.Goals as goal

pub returns : goal.returns
returns c = let args = c.args in
    let pair = c.entries_at-pair.ensures in
    (entry_read args.table args.seq.now args.i _ c.requires.letters (omega arith) pair.result_value args.residues.now c.requires.holds_letters, entry_read args.table args.seq.now (args.i + 1) _ c.requires.letters (omega arith) pair.second args.residues.now c.requires.holds_letters)
