-- `translation::letter_codon` meets its contract. Assumes nothing.
use Rattle.places.proofs.Entries.{entry_read}
use Rattle.translation.proofs.reading.letter_codon.Goals as goal

pub returns : goal.returns
returns c = entry_read c.args.table c.args.seq.now c.args.i _ c.requires.letters c.requires.i_in_bounds c.entry_at-entry.ensures.value c.args.residues.now c.requires.holds_letters
