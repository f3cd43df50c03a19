-- `altered::put_at` meets its contract. Assumes nothing.
use mathlib.Core.Path.{ap, ◌∙◌}
use native.Mathlib.Omega.{arith}
use Rattle.rules.specs.Packed.{letters_by}
use Rattle.rules.specs.Complement.{complement}
use Rattle.transcript.proofs.Transcripts.{new-fits, copy-fits, turned-fits}
use Rattle.altered.proofs.Letters.{new-at, copy_at, turned-at}
use Rattle.altered.proofs.put_at.Goals as goal

pub bounds-new-i : goal.bounds-new-i
bounds-new-i c =
    let a = c.args in
    omega (arith, new-fits a.plan (letters_by a.form a.letters.now) a.new.now c.requires.sourced c.in-New.is, c.requires.i_lt_kept)

pub overflow_add-start : goal.overflow_add-start
overflow_add-start c =
    let a = c.args in
    omega (arith, copy-fits a.plan (letters_by a.form a.letters.now) a.new.now c.requires.sourced c.in-Copy.is, c.requires.sourced.ends, c.requires.i_lt_kept)

pub letter_at-requires : goal.letter_at-requires
letter_at-requires c =
    let a = c.args in
    record { letters_value = c.requires.sourced.letters-are; place_in_bounds = omega (arith, copy-fits a.plan (letters_by a.form a.letters.now) a.new.now c.requires.sourced c.in-Copy.is, c.requires.sourced.ends, c.requires.i_lt_kept) }

pub overflow_sub-end : goal.overflow_sub-end
overflow_sub-end c =
    let a = c.args in
    omega (arith, turned-fits a.plan (letters_by a.form a.letters.now) a.new.now c.requires.sourced c.in-Turned.is, c.requires.i_lt_kept)

pub overflow_sub-end-in-Turned : goal.overflow_sub-end-in-Turned
overflow_sub-end-in-Turned c =
    let a = c.args in
    omega (arith, turned-fits a.plan (letters_by a.form a.letters.now) a.new.now c.requires.sourced c.in-Turned.is, c.requires.i_lt_kept)

pub letter_at-requires-in-Turned : goal.letter_at-requires-in-Turned
letter_at-requires-in-Turned c =
    let a = c.args in
    record { letters_value = c.requires.sourced.letters-are; place_in_bounds = omega (arith, turned-fits a.plan (letters_by a.form a.letters.now) a.new.now c.requires.sourced c.in-Turned.is, c.requires.sourced.ends, c.requires.i_lt_kept) }

pub returns-in-New : goal.returns-in-New
returns-in-New c =
    let a = c.args in
    new-at a.plan (letters_by a.form a.letters.now) a.new.now c.requires.sourced a.i c.requires.i_lt_kept c.in-New.is

pub returns-in-Copy : goal.returns-in-Copy
returns-in-Copy c =
    let a = c.args in
    c.letter_at.ensures ∙ copy_at a.plan (letters_by a.form a.letters.now) a.new.now c.requires.sourced a.i c.requires.i_lt_kept c.in-Copy.is

pub returns-in-Turned : goal.returns-in-Turned
returns-in-Turned c =
    let a = c.args in
    c.complement_of.ensures ∙ ap complement c.letter_at-in-Turned.ensures
    ∙ turned-at a.plan (letters_by a.form a.letters.now) a.new.now c.requires.sourced a.i c.requires.i_lt_kept c.in-Turned.is
