-- `parts::residues::residue_at` meets its contract. Assumes nothing.
use native.Mathlib.Omega.{arith}
use Rattle.reference.proofs.Reading.{few-exceptions}
use Rattle.parts.specs.Parts.{in_parts}
use Rattle.parts.proofs.Places.{codon-within, residue-is}
use Rattle.parts.proofs.residues.residue_at.Goals as goal

pub overflow_mul-at : goal.overflow_mul-at
overflow_mul-at c =
    let a = c.args in
    let inside = codon-within (in_parts a.a.now a.b.now a.c.now) a.cds a.e c.requires.readable a.k c.requires.k_bound in
    omega (arith, inside)

pub overflow_add-at : goal.overflow_add-at
overflow_add-at c =
    let a = c.args in
    let inside = codon-within (in_parts a.a.now a.b.now a.c.now) a.cds a.e c.requires.readable a.k c.requires.k_bound in
    omega (arith, inside)

pub set_at-first-requires : goal.set_at-first-requires
set_at-first-requires c =
    let a = c.args in
    let inside = codon-within (in_parts a.a.now a.b.now a.c.now) a.cds a.e c.requires.readable a.k c.requires.k_bound in
    record { i_in_bounds = omega (arith, inside); c_value = c.requires.readable.sound.letters }

pub overflow_add-at-2 : goal.overflow_add-at-2
overflow_add-at-2 c =
    let a = c.args in
    let inside = codon-within (in_parts a.a.now a.b.now a.c.now) a.cds a.e c.requires.readable a.k c.requires.k_bound in
    omega (arith, inside)

pub set_at-second-requires : goal.set_at-second-requires
set_at-second-requires c =
    let a = c.args in
    let inside = codon-within (in_parts a.a.now a.b.now a.c.now) a.cds a.e c.requires.readable a.k c.requires.k_bound in
    record { i_in_bounds = omega (arith, inside); c_value = c.requires.readable.sound.letters }

pub overflow_add-at-3 : goal.overflow_add-at-3
overflow_add-at-3 c =
    let a = c.args in
    let inside = codon-within (in_parts a.a.now a.b.now a.c.now) a.cds a.e c.requires.readable a.k c.requires.k_bound in
    omega (arith, inside)

pub set_at-third-requires : goal.set_at-third-requires
set_at-third-requires c =
    let a = c.args in
    let inside = codon-within (in_parts a.a.now a.b.now a.c.now) a.cds a.e c.requires.readable a.k c.requires.k_bound in
    record { i_in_bounds = omega (arith, inside); c_value = c.requires.readable.sound.letters }

pub overflow_add-k : goal.overflow_add-k
overflow_add-k c =
    let a = c.args in
    let inside = codon-within (in_parts a.a.now a.b.now a.c.now) a.cds a.e c.requires.readable a.k c.requires.k_bound in
    omega (arith, inside)

pub excepted_at-requires : goal.excepted_at-requires
excepted_at-requires c =
    let a = c.args in
    few-exceptions (in_parts a.a.now a.b.now a.c.now) a.cds a.e c.requires.readable

pub returns : goal.returns
returns c =
    let a = c.args in
    residue-is (in_parts a.a.now a.b.now a.c.now) a.cds a.e c.requires.readable a.k c.residue_in-residue.result c.excepted_at.result c.requires.k_bound
    c.set_at-first.result c.set_at-second.result c.set_at-third.result c.set_at-first.ensures.value c.set_at-second.ensures.value c.set_at-third.ensures.value
    c.residue_in-residue.ensures c.excepted_at.ensures
