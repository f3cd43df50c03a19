-- `translation::codon_at` meets its contract: the three bytes of a whole codon are letters.
-- Assumes nothing.
use Prim.Native.Nat.{◌+◌, ◌*◌}
use native.Mathlib.Omega.{arith}
use Rattle.places.proofs.Residues.{codon_sets, set_there}
use Rattle.walks.proofs.codon_at.Goals as goal

pub residue_in-requires : goal.residue_in-requires
residue_in-requires c = let s = c.args.seq.now in
    let i = c.args.i in
    let letters = c.requires.seq_value in
    record { holds_code = c.requires.holds_code; a_nonzero = set_there s (i * 3) letters (omega arith) (c.folded_set-a.ensures.value, c.folded_set-a.ensures.small); b_nonzero = set_there s (i * 3 + 1) letters (omega arith) (c.folded_set-b.ensures.value, c.folded_set-b.ensures.small); c_nonzero = set_there s (i * 3 + 2) letters (omega arith) (c.folded_set-c.ensures.value, c.folded_set-c.ensures.small) }

pub returns : goal.returns
returns c = cc (codon_sets c.args.table c.args.seq.now c.args.i)
