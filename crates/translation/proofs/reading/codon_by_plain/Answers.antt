-- `translation::codon_by_plain` meets its contract: a plain codon has its residue at its place, and any other is joined. Assumes nothing.
use Prim.Native.Nat.{◌+◌, ◌*◌}
use native.Mathlib.Omega.{arith}
use Rattle.places.proofs.Residues.{codon_sets, letter_at_lem, set_there}
use Rattle.places.proofs.Places.{place_small, tested-read}
use Rattle.translation.proofs.reading.codon_by_plain.Goals as goal

pub is_base_letter-requires : goal.is_base_letter-requires
is_base_letter-requires c = letter_at_lem c.args.seq.now (c.args.i * 3) c.requires.seq_value (omega arith)

pub is_base_letter-requires-2 : goal.is_base_letter-requires-2
is_base_letter-requires-2 c = letter_at_lem c.args.seq.now (c.args.i * 3 + 1) c.requires.seq_value (omega arith)

pub is_base_letter-requires-3 : goal.is_base_letter-requires-3
is_base_letter-requires-3 c = letter_at_lem c.args.seq.now (c.args.i * 3 + 2) c.requires.seq_value (omega arith)

pub bounds-code-place : goal.bounds-code-place
bounds-code-place c = let args = c.args in
    rw c.place_at-place.ensures (place_small args.seq.now args.i)

pub returns-then-is_base_letter : goal.returns-then-is_base_letter
returns-then-is_base_letter c = tested-read c.args.table c.args.code.now c.args.seq.now c.args.i _ c.requires.holds_plain c.place_at-place.ensures
    c.is_base_letter.ensures c.is_base_letter-2.ensures c.is_base_letter-3.ensures c.if-is_base_letter.true

pub set_of_letter-requires : goal.set_of_letter-requires
set_of_letter-requires c = letter_at_lem c.args.seq.now (c.args.i * 3) c.requires.seq_value (omega arith)

pub set_of_letter-requires-2 : goal.set_of_letter-requires-2
set_of_letter-requires-2 c = letter_at_lem c.args.seq.now (c.args.i * 3 + 1) c.requires.seq_value (omega arith)

pub set_of_letter-requires-3 : goal.set_of_letter-requires-3
set_of_letter-requires-3 c = letter_at_lem c.args.seq.now (c.args.i * 3 + 2) c.requires.seq_value (omega arith)

pub read_by_plain-requires : goal.read_by_plain-requires
read_by_plain-requires c = let s = c.args.seq.now in
    let i = c.args.i in
    let letters = c.requires.seq_value in
    record { holds_plain = c.requires.holds_plain; a_nonzero = set_there s (i * 3) letters (omega arith) (c.set_of_letter.ensures.value, c.set_of_letter.ensures.small); b_nonzero = set_there s (i * 3 + 1) letters (omega arith) (c.set_of_letter-2.ensures.value, c.set_of_letter-2.ensures.small); c_nonzero = set_there s (i * 3 + 2) letters (omega arith) (c.set_of_letter-3.ensures.value, c.set_of_letter-3.ensures.small) }

pub returns : goal.returns
returns c = let args = c.args in
    cc (codon_sets args.table args.seq.now args.i)
