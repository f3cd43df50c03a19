-- `silent::alike_from` meets its contract. Assumes nothing.
use Prim.Native.Nat.{◌+◌, ◌-◌, ◌/◌, ◌≤◌, ◌<◌}
use native.Mathlib.Omega.{arith}
use lib.ListN.{length}
use Rattle.rules.specs.Altered.{part}
use Rattle.rules.specs.Packed.{letters_by}
use Rattle.altered.proofs.Letters.{length-made}
use Rattle.silent.proofs.Same.{first_some, few-own, held, in-stretch, alike_of}
use Rattle.silent.proofs.alike_from.Goals as goal

pub overflow_sub-first : goal.overflow_sub-first
overflow_sub-first c =
    let a = c.args in
    first_some (letters_by a.form a.letters.now) a.x.c a.x.e a.x.moved a.protein.now a.x.plan a.new.now c.requires.compares

pub stretch_codons-size-requires : goal.stretch_codons-size-requires
stretch_codons-size-requires c =
    let a = c.args in
    omega (arith, length-made a.x.plan (letters_by a.form a.letters.now) a.new.now c.requires.compares.makes, c.requires.compares.makes.new-short)

pub clear_codons-n-requires : goal.clear_codons-n-requires
clear_codons-n-requires c =
    let a = c.args in
    let sized = c.stretch_codons-size.ensures in
    let x = c.requires.compares in
    record { count_bound = (few-own (letters_by a.form a.letters.now) a.x.c a.x.e a.x.moved a.protein.now a.x.plan a.new.now c.requires.compares, x.few); n_bound = omega (arith, sized.few, c.min-2.ensures, c.min.ensures, c.requires.k_bound, x.long, x.makes.new-short) }

pub alike_codons-requires : goal.alike_codons-requires
unfolding part
alike_codons-requires c =
    let a = c.args in
    let sized = c.stretch_codons-size.ensures in
    let clear = c.clear_codons-n in
    let n = clear.result in
    let few : a.k + n < length a.protein.now = omega (arith, sized.few, c.min-2.ensures, c.min.ensures, c.requires.k_bound, clear.ensures.upper_bound) in
    let more : a.k + n ≤ (a.x.plan.length - (a.x.c.cs - 1)) / 3 = omega (arith, sized.few, c.min-2.ensures, c.min.ensures, c.requires.k_bound, clear.ensures.upper_bound) in
    let short : n ≤ 256 = omega (arith, sized.few, c.min-2.ensures, c.requires.most_bound, clear.ensures.upper_bound) in
    record { makes = c.requires.compares.makes; stretch = in-stretch (letters_by a.form a.letters.now) a.x.c a.x.e a.x.moved a.protein.now a.x.plan a.new.now c.requires.compares a.k n few _ _ sized c.if-size-eq0.false clear.ensures.upper_bound more; held = held (letters_by a.form a.letters.now) a.x.c a.x.e a.x.moved a.protein.now a.x.plan a.new.now c.requires.compares a.k n few short clear.ensures.own }

pub returns : goal.returns
unfolding part
returns c =
    let a = c.args in
    let sized = c.stretch_codons-size.ensures in
    let clear = c.clear_codons-n in
    let n = clear.result in
    let few : a.k + n < length a.protein.now = omega (arith, sized.few, c.min-2.ensures, c.min.ensures, c.requires.k_bound, clear.ensures.upper_bound) in
    let more : a.k + n < (a.x.plan.length - (a.x.c.cs - 1)) / 3 = omega (arith, sized.few, c.min-2.ensures, c.min.ensures, c.requires.k_bound, clear.ensures.upper_bound) in
    alike_of (letters_by a.form a.letters.now) a.x.c a.x.e a.x.moved a.protein.now a.x.plan a.new.now c.requires.compares a.k n few clear.ensures.moved more c.alike_codons.result c.alike_codons.ensures.upper_bound c.alike_codons.ensures.each
