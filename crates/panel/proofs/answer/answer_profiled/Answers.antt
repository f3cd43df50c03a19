-- `panel::answer::answer_profiled` meets its contract. Assumes nothing.
use mathlib.Core.Path.{sym, ◌∙◌}
use Rattle.rules.specs.Packed.{letters_by}
use Rattle.rules.specs.Refusal.{limits}
use Rattle.rules.specs.Views.{asked, reference_of}
use Rattle.reference.proofs.Checking.{bounded, sound, checks}
use Rattle.panel.proofs.Answering.{edit-refused, profile-refused, full, tests-bare, profile-bare}
use Rattle.reference.proofs.Judging.{exit-told}
use Rattle.panel.proofs.answer.answer_profiled.Goals as goal

pub edit_refusal-requires : goal.edit_refusal-requires
edit_refusal-requires c =
    let a = c.args in
    let s = letters_by a.ready.known.form a.letters.now in
    bounded s a.ready.known.cds (sound limits s a.ready.known a.ready.e a.protein.now c.requires)

pub returns-in_err-edit_refusal : goal.returns-in_err-edit_refusal
returns-in_err-edit_refusal c =
    let a = c.args in
    let s = letters_by a.ready.known.form a.letters.now in
    let r = reference_of s a.ready.known.cds a.ready.e in
    let x = asked a.ready.edit a.new.now in
    rw (exit-told _ _ c.from_residual.ensures.1)
    (edit-refused limits r x a.named a.transcript.now a.reference.now a.altered.now c.requires.accepted _
    (c.in_err-edit_refusal.ensures s (sym c.size_of-size.ensures) ∙ tests-bare s a.ready.known.cds a.ready.e x limits.most))

pub profile_refusal-requires : goal.profile_refusal-requires
profile_refusal-requires c =
    let a = c.args in
    let s = letters_by a.ready.known.form a.letters.now in
    record { checks = checks limits s a.ready.known a.ready.e a.protein.now c.requires; most = limits.most; clear = sym (c.in_ok-edit_refusal.ensures s (sym c.size_of-size.ensures)) }

pub returns-in_err-profile_refusal : goal.returns-in_err-profile_refusal
returns-in_err-profile_refusal c =
    let a = c.args in
    let s = letters_by a.ready.known.form a.letters.now in
    let r = reference_of s a.ready.known.cds a.ready.e in
    let x = asked a.ready.edit a.new.now in
    rw (exit-told _ _ c.from_residual-in_err-profile_refusal.ensures.1)
    (profile-refused limits r x a.named a.transcript.now a.reference.now a.altered.now c.requires.accepted
    (sym (tests-bare s a.ready.known.cds a.ready.e x limits.most) ∙ sym (c.in_ok-edit_refusal.ensures s (sym c.size_of-size.ensures))) _
    (c.in_err-profile_refusal.ensures ∙ profile-bare s a.ready.known.cds a.ready.e x a.named))

pub returns : goal.returns
returns c =
    let a = c.args in
    let s = letters_by a.ready.known.form a.letters.now in
    let r = reference_of s a.ready.known.cds a.ready.e in
    let x = asked a.ready.edit a.new.now in
    full limits r x a.named a.transcript.now a.reference.now a.altered.now
    (sym (profile-bare s a.ready.known.cds a.ready.e x a.named) ∙ sym c.in_ok-profile_refusal.ensures) _ _ _ _ c.answer_known.ensures
