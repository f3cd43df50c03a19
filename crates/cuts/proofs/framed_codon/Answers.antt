-- `cuts::framed_codon` meets its contract. Assumes nothing.
use mathlib.Core.Path.{ap, ◌∙◌}
use Prim.Native.Nat.{◌-◌, ◌≤◌}
use native.Mathlib.Omega.{arith}
use Rattle.rules.specs.Letters.{letter_set}
use Rattle.rules.specs.Altered.{part}
use Rattle.rules.specs.Packed.{letters_by}
use Rattle.rules.proofs.Parts.{length_part}
use Rattle.cuts.proofs.Cuts.{part_at, part_first, codon-of-two, codon-of-one}
use Rattle.cuts.proofs.framed_codon.Goals as goal

pub returns-then-frame-eq2 : goal.returns-then-frame-eq2
returns-then-frame-eq2 c =
    let a = c.args in
    let one = c.set_at-a in
    let long = length_part a.start a.end (letters_by a.form a.letters.now) c.requires.in_letters.ends in
    codon-of-two a.table a.frame (part a.start a.end (letters_by a.form a.letters.now)) (omega (arith, long, c.requires.bound)) one.result c.read_codon.result (one.ensures.value ∙ ap letter_set (part_first a.start a.end (letters_by a.form a.letters.now) (omega (arith, c.requires.le_frame, c.requires.bound)))) c.if-frame-eq2.true c.read_codon.ensures

pub returns : goal.returns
returns c =
    let a = c.args in
    let one = c.set_at-a in
    let two = c.set_at-b in
    let long = length_part a.start a.end (letters_by a.form a.letters.now) c.requires.in_letters.ends in
    let enough : 2 ≤ a.end - a.start = omega (arith, c.requires.le_frame, c.requires.bound, c.if-frame-eq2.false) in
    codon-of-one a.table a.frame (part a.start a.end (letters_by a.form a.letters.now)) (omega (arith, long, c.requires.bound)) one.result c.read_codon-2.result (one.ensures.value ∙ ap letter_set (part_first a.start a.end (letters_by a.form a.letters.now) (omega arith))) c.requires.le_frame.0 c.requires.le_frame.1 c.if-frame-eq2.false two.result (two.ensures.value ∙ ap letter_set (part_at a.start a.end 1 (letters_by a.form a.letters.now) (omega arith))) c.read_codon-2.ensures
