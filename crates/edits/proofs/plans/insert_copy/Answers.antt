-- `edits::plans::insert_copy` meets its contract. Assumes nothing.
use mathlib.Core.Path.{sym, ap}
use Prim.Native.Nat.{◌-◌, ◌%◌}
use native.Mathlib.Omega.{arith}
use Rattle.rules.specs.Altered.{part}
use Rattle.rules.specs.Reference.{size}
use Rattle.rules.specs.Packed.{letters_by}
use Rattle.rules.proofs.Parts.{length_part}
use Rattle.cuts.specs.declared.Cut.{Cut}
use Rattle.cuts.proofs.Cuts.{cut_le}
use Rattle.edits.proofs.Planning.{cuts-copy}
use Rattle.edits.proofs.plans.insert_copy.Goals as goal

pub insert_stop_seq_end-cut-requires : goal.insert_stop_seq_end-cut-requires
insert_stop_seq_end-cut-requires c =
    let a = c.args in
    record { in_letters = c.requires.in_letters; frame_bound = omega arith; cuts = cuts-copy (letters_by a.known.form a.letters.now) a.known c.requires.checks a.range.start a.range.end }

pub insert-requires : goal.insert-requires
unfolding size
insert-requires c =
    let a = c.args in
    let cut = c.insert_stop_seq_end-cut in
    let long = length_part a.range.start a.range.end (letters_by a.known.form a.letters.now) c.requires.in_letters.ends in
    (omega (arith, c.size_of-size.ensures, c.requires.checks.sound.short), omega (arith, ap (λ (x : Cut). x.kept) cut.ensures, cut_le a.known.cds.table ((a.range.end - (a.known.cds.cs - 1)) % 3) (part a.range.start a.range.end (letters_by a.known.form a.letters.now)), long, c.requires.in_letters.ends, c.requires.checks.sound.short))

pub returns : goal.returns
returns c =
    let a = c.args in
    let cut = c.insert_stop_seq_end-cut in
    let long = length_part a.range.start a.range.end (letters_by a.known.form a.letters.now) c.requires.in_letters.ends in
    λ e h k. c.insert.ensures (letters_by a.known.form a.letters.now) (part a.range.start a.range.end (letters_by a.known.form a.letters.now)) a.known.cds e (record { long = sym c.size_of-size.ensures; many = long; cuts = cut.ensures }) h k
