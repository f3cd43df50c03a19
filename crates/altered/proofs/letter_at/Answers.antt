-- `altered::letter_at` meets its contract: a letter before the edit, of what goes in, and behind the edit. Assumes nothing.
use mathlib.Core.Path.{◌∙◌}
use native.Mathlib.Omega.{arith}
use Rattle.rules.specs.Packed.{letters_by}
use Rattle.altered.proofs.Letters.{length-made, before_at, inside-at, behind-at}
use Rattle.altered.proofs.letter_at.Goals as goal

pub returns-then-i-from : goal.returns-then-i-from
returns-then-i-from c =
    let a = c.args in
    c.letter_at.ensures ∙ before_at a.plan (letters_by a.form a.letters.now) a.new.now c.requires.makes a.i c.if-i-from.true

pub returns-then-past-kept : goal.returns-then-past-kept
returns-then-past-kept c =
    let a = c.args in
    c.put_at.ensures ∙ inside-at a.plan (letters_by a.form a.letters.now) a.new.now c.requires.makes a.i c.if-i-from.false c.if-past-kept.true

pub letter_at-requires-2 : goal.letter_at-requires-2
letter_at-requires-2 c =
    let a = c.args in
    let x = c.requires.makes in
    record { letters_value = x.source.letters-are; place_in_bounds = omega (arith, length-made a.plan (letters_by a.form a.letters.now) a.new.now c.requires.makes, x.ends, c.requires.i_in_bounds, c.if-i-from.false, c.if-past-kept.false) }

pub returns : goal.returns
returns c =
    let a = c.args in
    c.letter_at-2.ensures ∙ behind-at a.plan (letters_by a.form a.letters.now) a.new.now c.requires.makes a.i c.if-i-from.false c.if-past-kept.false
