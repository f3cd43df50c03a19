-- `reference::stop::ends_in_stop` meets its contract. Assumes nothing.
use native.Mathlib.Omega.{arith}
use Rattle.rules.specs.Packed.{letters_by}
use Rattle.reference.proofs.Reading.{few-exceptions, codons-are}
use Rattle.reference.proofs.Last.{within, last-residue}
use Rattle.reference.proofs.stop.ends_in_stop.Goals as goal

pub overflow_sub-at : goal.overflow_sub-at
overflow_sub-at c =
    let a = c.args in
    omega (arith, within (letters_by a.form a.letters.now) a.c a.e c.requires.readable c.requires.end_value)

pub set_at-first-requires : goal.set_at-first-requires
set_at-first-requires c =
    let a = c.args in
    record { letters_value = c.requires.readable.sound.letters; place_in_bounds = omega (arith, within (letters_by a.form a.letters.now) a.c a.e c.requires.readable c.requires.end_value) }

pub set_at-second-requires : goal.set_at-second-requires
set_at-second-requires c =
    let a = c.args in
    record { letters_value = c.requires.readable.sound.letters; place_in_bounds = omega (arith, within (letters_by a.form a.letters.now) a.c a.e c.requires.readable c.requires.end_value) }

pub set_at-third-requires : goal.set_at-third-requires
set_at-third-requires c =
    let a = c.args in
    record { letters_value = c.requires.readable.sound.letters; place_in_bounds = omega (arith, within (letters_by a.form a.letters.now) a.c a.e c.requires.readable c.requires.end_value) }

pub excepted_at-requires : goal.excepted_at-requires
excepted_at-requires c =
    let a = c.args in
    few-exceptions (letters_by a.form a.letters.now) a.c a.e c.requires.readable

pub returns : goal.returns
returns c =
    let a = c.args in
    let pre = c.requires in
    let first = c.set_at-first in
    let second = c.set_at-second in
    let third = c.set_at-third in
    let read = c.read_codon-residue in
    last-residue (letters_by a.form a.letters.now) a.c a.e pre.readable pre.end_value _ read.result c.excepted_at.result (codons-are (letters_by a.form a.letters.now) a.c a.e pre.readable)
    first.result second.result third.result first.ensures.value second.ensures.value third.ensures.value read.ensures c.excepted_at.ensures
