-- `reference::protein::read_reference` meets its contract. Assumes nothing.
use mathlib.Core.Path.{sym}
use native.Mathlib.Omega.{arith}
use lib.Seq.{length-take-le}
use Rattle.rules.specs.Altered.{part}
use Rattle.rules.specs.Translation.{residue_count}
use Rattle.rules.specs.Reference.{size}
use Rattle.rules.specs.Packed.{letters_by}
use Rattle.reference.proofs.Reading.{part-walks, holds-protein, residues-fit, read_known}
use Rattle.reference.proofs.protein.read_reference.Goals as goal

pub write_residues-requires : goal.write_residues-requires
unfolding part size
write_residues-requires c =
    let a = c.args in
    let pre = c.requires in
    let b = pre.readable.sound.bounds in
    record { in_letters = record { letters = pre.readable.sound.letters; rising = omega (arith, b.first, b.rising); ends = b.inside }; walks = part-walks (letters_by a.form a.letters.now) a.c a.e pre.readable a.plain a.protein.now pre.plain_value pre.c_in_bounds }

pub slice_bounds-several_stops-end : goal.slice_bounds-several_stops-end
unfolding residue_count part
slice_bounds-several_stops-end c =
    let a = c.args in
    let pre = c.requires in
    residues-fit (letters_by a.form a.letters.now) a.c a.e pre.readable a.protein.now _ c.write_residues.ensures _ c.thirds-residues.ensures pre.c_in_bounds

pub slice_bounds-several_stops-end-2 : goal.slice_bounds-several_stops-end-2
unfolding residue_count part
slice_bounds-several_stops-end-2 c =
    let a = c.args in
    let pre = c.requires in
    sym (length-take-le c.thirds-residues.result _ (residues-fit (letters_by a.form a.letters.now) a.c a.e pre.readable a.protein.now _ c.write_residues.ensures _ c.thirds-residues.ensures pre.c_in_bounds))

pub returns : goal.returns
unfolding residue_count part
returns c =
    let a = c.args in
    let pre = c.requires in
    let written = c.write_residues.ensures in
    record { value = read_known (letters_by a.form a.letters.now) a.c a.e pre.readable a.protein.now _ written a.form _ c.thirds-residues.ensures a.plain c.several_stops-several.result pre.plain_value c.several_stops-several.ensures; protein_after = holds-protein (letters_by a.form a.letters.now) a.c a.e pre.readable a.protein.now _ written }
