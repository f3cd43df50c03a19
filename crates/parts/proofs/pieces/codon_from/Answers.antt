-- `parts::pieces::codon_from` meets its contract. Assumes nothing.
use Prim.Native.Nat.{◌+◌, ◌*◌}
use native.Mathlib.Omega.{arith}
use Rattle.parts.proofs.Passing.{set_there, codon-read}
use Rattle.parts.proofs.pieces.codon_from.Goals as goal

pub residue_in-requires : goal.residue_in-requires
residue_in-requires c =
    let s = c.args.part.now in
    let letters = c.requires.part_value in
    let k = c.args.at + c.args.i * 3 in
    let fits = c.requires.i_in_bounds in
    record { holds_code = c.requires.holds_code; a_nonzero = set_there s letters k _ (omega (arith, fits)) (c.folded_set-first.ensures.value, c.folded_set-first.ensures.small); b_nonzero = set_there s letters (k + 1) _ (omega (arith, fits)) (c.folded_set-second.ensures.value, c.folded_set-second.ensures.small); c_nonzero = set_there s letters (k + 2) _ (omega (arith, fits)) (c.folded_set-third.ensures.value, c.folded_set-third.ensures.small) }

pub returns : goal.returns
returns c =
    let a = c.args in
    codon-read a.part.now c.requires.part_value a.table a.at a.i c.folded_set-first.result c.folded_set-second.result c.folded_set-third.result c.residue_in.result c.requires.i_in_bounds
    c.folded_set-first.ensures.value c.folded_set-second.ensures.value c.folded_set-third.ensures.value c.residue_in.ensures
