-- `edits::decision::decide` meets its contract. Assumes nothing.
use mathlib.Core.Path.{sym, ◌∙◌}
use Rattle.rules.specs.Packed.{letters_by}
use Rattle.rules.specs.Views.{bare, asked}
use Rattle.reference.proofs.Judging.{exit-told}
use Rattle.reference.proofs.Checking.{bounded}
use Rattle.positions.proofs.Tests.{edit-allowed}
use Rattle.edits.proofs.Planning.{planned}
use Rattle.edits.proofs.Deciding.{decides-refusal, decides-unknown, decides-plan}
use Rattle.edits.proofs.decision.decide.Goals as goal

pub returns-in_err-edit_refusal : goal.returns-in_err-edit_refusal
returns-in_err-edit_refusal c =
    let a = c.args in
    let refused = c.in_err-edit_refusal.ensures (letters_by a.known.form a.letters.now) (sym c.size_of-size.ensures) in
    exit-told _ _ c.from_residual.ensures.1 ∙ decides-refusal a.most a.known.several (bare (letters_by a.known.form a.letters.now) a.known.cds) (asked a.edit a.new.now) _ refused

pub ends_after_transcript-requires : goal.ends_after_transcript-requires
ends_after_transcript-requires c =
    let a = c.args in
    let none = sym (c.in_ok-edit_refusal.ensures (letters_by a.known.form a.letters.now) (sym c.size_of-size.ensures)) in
    let sound = c.requires.checks.sound in
    record { bounded = bounded (letters_by a.known.form a.letters.now) a.known.cds sound; end_value = (edit-allowed (bare (letters_by a.known.form a.letters.now) a.known.cds) sound a.most (asked a.edit a.new.now) none).end-inside }

pub returns-then-known-ends_after_transcript : goal.returns-then-known-ends_after_transcript
returns-then-known-ends_after_transcript c =
    let a = c.args in
    let none = sym (c.in_ok-edit_refusal.ensures (letters_by a.known.form a.letters.now) (sym c.size_of-size.ensures)) in
    let past = c.ends_after_transcript in
    decides-unknown a.most a.known.several (bare (letters_by a.known.form a.letters.now) a.known.cds) (asked a.edit a.new.now) none
    past.result (past.ensures (letters_by a.known.form a.letters.now) a.new.now (sym c.size_of-size.ensures)) c.if-known-ends_after_transcript.true

pub plan_of-requires : goal.plan_of-requires
plan_of-requires c =
    let a = c.args in
    let none = sym (c.in_ok-edit_refusal.ensures (letters_by a.known.form a.letters.now) (sym c.size_of-size.ensures)) in
    let pre = c.requires in
    record { checks = pre.checks; planned = planned (bare (letters_by a.known.form a.letters.now) a.known.cds) pre.checks.sound a.most (asked a.edit a.new.now) pre.most_bound none }

pub returns : goal.returns
returns c =
    let a = c.args in
    let none = sym (c.in_ok-edit_refusal.ensures (letters_by a.known.form a.letters.now) (sym c.size_of-size.ensures)) in
    let past = c.ends_after_transcript in
    decides-plan a.most a.known.several (bare (letters_by a.known.form a.letters.now) a.known.cds) (asked a.edit a.new.now) none
    past.result (past.ensures (letters_by a.known.form a.letters.now) a.new.now (sym c.size_of-size.ensures)) c.if-known-ends_after_transcript.false c.plan_of.result c.plan_of.ensures
