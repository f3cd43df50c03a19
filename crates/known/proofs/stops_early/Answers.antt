-- `known::stops_early` meets its contract. Assumes nothing.
use native.Mathlib.Omega.{arith}
use Rattle.rules.specs.Altered.{part}
use Rattle.rules.specs.Reference.{size}
use Rattle.rules.specs.Packed.{letters_by}
use Rattle.reference.proofs.Reading.{part-reads}
use Rattle.known.proofs.FirstStop.{first-tells, stop-within}
use Rattle.known.proofs.stops_early.Goals as goal

pub first_stop_by-stop-requires : goal.first_stop_by-stop-requires
unfolding part size
first_stop_by-stop-requires c =
    let a = c.args in
    let x = c.requires in
    let b = x.readable.sound.bounds in
    record { in_letters = record { letters = x.readable.sound.letters; rising = omega (arith, b.first, b.rising); ends = b.inside }; reads = part-reads (letters_by a.form a.letters.now) a.c a.e x.readable a.plain x.plain_value }

pub overflow_add-result : goal.overflow_add-result
unfolding part size
overflow_add-result c =
    let a = c.args in
    let x = c.requires in
    omega (arith, stop-within (letters_by a.form a.letters.now) a.c a.e x.readable x.reference_protein c.first_stop_by-stop.result c.first_stop_by-stop.ensures, x.readable.sound.short)

pub returns : goal.returns
unfolding part
returns c =
    let a = c.args in
    let x = c.requires in
    first-tells (letters_by a.form a.letters.now) a.c a.e x.readable x.reference_protein c.first_stop_by-stop.result c.first_stop_by-stop.ensures c.if-c-ne0.false
