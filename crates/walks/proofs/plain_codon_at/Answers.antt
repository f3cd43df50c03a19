-- `walks::plain_codon_at` meets its contract. Assumes nothing.
use Rattle.places.proofs.Places.{place_small, place_read}
use Rattle.walks.proofs.plain_codon_at.Goals as goal

pub bounds-code-place : goal.bounds-code-place
bounds-code-place c = rw c.place_at-place.ensures (place_small c.args.seq.now c.args.i)

pub returns : goal.returns
returns c = place_read c.args.table c.args.code.now c.args.seq.now c.args.i _ c.requires.holds_plain c.place_at-place.ensures c.requires.seq_value c.requires.i_in_bounds
