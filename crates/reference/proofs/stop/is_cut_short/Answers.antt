-- `reference::stop::is_cut_short` meets its contract. Assumes nothing.
use native.Mathlib.Omega.{arith}
use Rattle.rules.specs.Altered.{part}
use Rattle.rules.specs.Reference.{size}
use Rattle.rules.specs.Packed.{letters_by}
use Rattle.reference.proofs.Reading.{part-reads}
use Rattle.reference.proofs.Cut.{not-cut-short, cut_short_lem}
use Rattle.reference.proofs.stop.is_cut_short.Goals as goal

pub returns-then-is_short_end-c : goal.returns-then-is_short_end-c
returns-then-is_short_end-c c =
    let a = c.args in
    not-cut-short (letters_by a.form a.letters.now) a.c a.e c.requires.readable _ c.is_short_end.ensures (rw c.size_of.ensures at c.if-is_short_end-c.true)

pub first_stop_by-requires : goal.first_stop_by-requires
unfolding part size
first_stop_by-requires c =
    let a = c.args in
    let x = c.requires.readable in
    let b = x.sound.bounds in
    record { in_letters = record { letters = x.sound.letters; rising = omega (arith, b.first, b.rising); ends = b.inside }; reads = part-reads (letters_by a.form a.letters.now) a.c a.e x a.plain c.requires.plain_value }

pub returns : goal.returns
unfolding part
returns c =
    let a = c.args in
    cut_short_lem (letters_by a.form a.letters.now) a.c a.e c.requires.readable _ c.is_short_end.ensures c.first_stop_by.result c.first_stop_by.ensures (rw c.size_of.ensures at c.if-is_short_end-c.false)
