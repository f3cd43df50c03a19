-- `profile::profile_refusal` meets its contract. Assumes nothing.
use mathlib.Core.Path.{◌≡◌, ◌∙◌}
use mathlib.Core.Bool.{◌&&◌}
use native.Mathlib.Omega.{arith}
use Rattle.rules.specs.Reference.{size}
use Rattle.rules.specs.Packed.{letters_by}
use Rattle.rules.specs.Views.{bare, asked}
use Rattle.rules.specs.Panel.{has_bases}
use Rattle.reference.proofs.Checking.{bounded}
use Rattle.positions.proofs.Tests.{edit-allowed, edit-indexes}
use Rattle.profile.proofs.Judging.{index_by, first-there, rising, last-small, judged}
use Rattle.profile.proofs.profile_refusal.Goals as goal

pub index_of-first-requires : goal.index_of-first-requires
index_of-first-requires c =
    let r = bare (letters_by c.args.known.form c.args.letters.now) c.args.known.cds in
    let x = asked c.args.edit c.args.new.now in
    let sound = c.requires.checks.sound in
    record { bounded = bounded (letters_by c.args.known.form c.args.letters.now) c.args.known.cds sound; p_value = (edit-allowed r sound c.requires.most x c.requires.clear).start-inside }

pub index_of-last-requires : goal.index_of-last-requires
index_of-last-requires c =
    let r = bare (letters_by c.args.known.form c.args.letters.now) c.args.known.cds in
    let x = asked c.args.edit c.args.new.now in
    let sound = c.requires.checks.sound in
    record { bounded = bounded (letters_by c.args.known.form c.args.letters.now) c.args.known.cds sound; p_value = (edit-allowed r sound c.requires.most x c.requires.clear).end-inside }

pub overflow_add-last : goal.overflow_add-last
unfolding size
overflow_add-last c =
    let r = bare (letters_by c.args.known.form c.args.letters.now) c.args.known.cds in
    let x = asked c.args.edit c.args.new.now in
    let sound = c.requires.checks.sound in
    let size_is = c.size_of-size in
    omega (arith, index_by r c.args.edit.end size_is.result _ size_is.ensures c.index_of-last.ensures, sound.short, last-small c.requires.most r x sound.bounds (edit-allowed r sound c.requires.most x c.requires.clear) (edit-indexes r sound c.requires.most x c.requires.clear))

pub overflow_sub-last : goal.overflow_sub-last
unfolding size
overflow_sub-last c =
    let r = bare (letters_by c.args.known.form c.args.letters.now) c.args.known.cds in
    let x = asked c.args.edit c.args.new.now in
    let sound = c.requires.checks.sound in
    let size_is = c.size_of-size in
    omega (arith, index_by r c.args.edit.end size_is.result _ size_is.ensures c.index_of-last.ensures, index_by r c.args.edit.start size_is.result _ size_is.ensures c.index_of-first.ensures, rising c.requires.most r x sound.bounds (edit-allowed r sound c.requires.most x c.requires.clear) (edit-indexes r sound c.requires.most x c.requires.clear))

pub letter_at-requires : goal.letter_at-requires
unfolding size
letter_at-requires c =
    let r = bare (letters_by c.args.known.form c.args.letters.now) c.args.known.cds in
    let x = asked c.args.edit c.args.new.now in
    let sound = c.requires.checks.sound in
    let size_is = c.size_of-size in
    record { letters_value = sound.letters; place_in_bounds = omega (arith, index_by r c.args.edit.start size_is.result _ size_is.ensures c.index_of-first.ensures, first-there c.requires.most r x sound.bounds (edit-allowed r sound c.requires.most x c.requires.clear) (edit-indexes r sound c.requires.most x c.requires.clear)) }

pub returns : goal.returns
unfolding size has_bases
returns c =
    let r = bare (letters_by c.args.known.form c.args.letters.now) c.args.known.cds in
    let x = asked c.args.edit c.args.new.now in
    let sound = c.requires.checks.sound in
    let size_is = c.size_of-size in
    let bases = c.all_bases in
    let plain : (c.args.known.plain && bases.result) ≡ has_bases r x = rw (c.requires.checks.plain, bases.ensures) in
    c.first_refusal.ensures
    ∙ rw (c.is_uneven-uneven.ensures, c.is_naming.ensures, c.from.ensures, c.letter_at.ensures, index_by r c.args.edit.end size_is.result _ size_is.ensures c.index_of-last.ensures, index_by r c.args.edit.start size_is.result _ size_is.ensures c.index_of-first.ensures)
    (judged c.requires.most r x sound.bounds (edit-allowed r sound c.requires.most x c.requires.clear) (edit-indexes r sound c.requires.most x c.requires.clear) c.args.named _ _ plain (c.is_of_panel.ensures c.args.new.now))
