-- `joints::early_refusal` meets its contract. Assumes nothing.
use mathlib.Core.Path.{sym, ◌∙◌, ap}
use Rattle.rules.specs.Packed.{letters_by}
use Rattle.rules.specs.Views.{asked, reference_of}
use Rattle.joints.proofs.Joining.{touching, tests-bare, early-first, early-second, early-pair, fifty-one, fifty-two, neither}
use mathlib.Core.Bool.{not}
use Rattle.reference.proofs.Judging.{exit_refusal}
use Rattle.joints.proofs.early_refusal.Goals as goal

pub returns-in_err-edit_refusal : goal.returns-in_err-edit_refusal
returns-in_err-edit_refusal c =
    let a = c.args in
    let s = letters_by a.known.form a.letters.now in
    let size = sym c.size_of-len.ensures in
    λ e is.
    exit_refusal _ _ c.from_residual.ensures.1
    ∙ early-first a.edits.most a.edits.other (reference_of s a.known.cds e) (asked a.edits.first a.new.now) (asked a.edits.second a.other.now) _
    (c.in_err-edit_refusal.ensures s size ∙ tests-bare s a.known.cds e a.edits.most (asked a.edits.first a.new.now))

pub returns-in_err-edit_refusal-2 : goal.returns-in_err-edit_refusal-2
returns-in_err-edit_refusal-2 c =
    let a = c.args in
    let s = letters_by a.known.form a.letters.now in
    let size = sym c.size_of-len.ensures in
    λ e is.
    let first = sym (c.in_ok-edit_refusal.ensures s size ∙ tests-bare s a.known.cds e a.edits.most (asked a.edits.first a.new.now)) in
    exit_refusal _ _ c.from_residual-in_err-edit_refusal-2.ensures.1
    ∙ early-second a.edits.most a.edits.other (reference_of s a.known.cds e) (asked a.edits.first a.new.now) (asked a.edits.second a.other.now) first _
    (c.in_err-edit_refusal-2.ensures s size ∙ tests-bare s a.known.cds e a.edits.other (asked a.edits.second a.other.now))

pub are_apart-requires : goal.are_apart-requires
are_apart-requires c =
    let a = c.args in
    let s = letters_by a.known.form a.letters.now in
    let size = sym c.size_of-len.ensures in
    let first = sym (c.in_ok-edit_refusal.ensures s size) in
    let second = sym (c.in_ok-edit_refusal-2.ensures s size) in
    rw c.size_of-len.ensures (record { touching = touching s a.known.cds c.requires.sound a.edits.most a.edits.first a.new.now first; other_touching = touching s a.known.cds c.requires.sound a.edits.other a.edits.second a.other.now second })

pub returns-then-not-are_apart : goal.returns-then-not-are_apart
returns-then-not-are_apart c =
    let a = c.args in
    let s = letters_by a.known.form a.letters.now in
    let size = sym c.size_of-len.ensures in
    let apart = c.are_apart in
    λ e is.
    let first = sym (c.in_ok-edit_refusal.ensures s size ∙ tests-bare s a.known.cds e a.edits.most (asked a.edits.first a.new.now)) in
    let second = sym (c.in_ok-edit_refusal-2.ensures s size ∙ tests-bare s a.known.cds e a.edits.other (asked a.edits.second a.other.now)) in
    early-pair a.edits.most a.edits.other (reference_of s a.known.cds e) (asked a.edits.first a.new.now) (asked a.edits.second a.other.now) first second 51
    (fifty-one s a.known e is (asked a.edits.first a.new.now) (asked a.edits.second a.other.now) apart.result (apart.ensures s a.new.now a.other.now size) (ap not c.if-not-are_apart.true))

pub ends_after_transcript-requires : goal.ends_after_transcript-requires
ends_after_transcript-requires c =
    let a = c.args in
    let s = letters_by a.known.form a.letters.now in
    let t = touching s a.known.cds c.requires.sound a.edits.most a.edits.first a.new.now (sym (c.in_ok-edit_refusal.ensures s (sym c.size_of-len.ensures))) in
    record { bounded = t.bounded; end_value = t.end-inside }

pub ends_after_transcript-requires-2 : goal.ends_after_transcript-requires-2
ends_after_transcript-requires-2 c =
    let a = c.args in
    let s = letters_by a.known.form a.letters.now in
    let t = touching s a.known.cds c.requires.sound a.edits.other a.edits.second a.other.now (sym (c.in_ok-edit_refusal-2.ensures s (sym c.size_of-len.ensures))) in
    record { bounded = t.bounded; end_value = t.end-inside }

pub returns-then-known-past : goal.returns-then-known-past
returns-then-known-past c =
    let a = c.args in
    let s = letters_by a.known.form a.letters.now in
    let size = sym c.size_of-len.ensures in
    let apart = c.are_apart in
    let one = c.ends_after_transcript in
    let two = c.ends_after_transcript-2 in
    λ e is.
    let first = sym (c.in_ok-edit_refusal.ensures s size ∙ tests-bare s a.known.cds e a.edits.most (asked a.edits.first a.new.now)) in
    let second = sym (c.in_ok-edit_refusal-2.ensures s size ∙ tests-bare s a.known.cds e a.edits.other (asked a.edits.second a.other.now)) in
    early-pair a.edits.most a.edits.other (reference_of s a.known.cds e) (asked a.edits.first a.new.now) (asked a.edits.second a.other.now) first second 52
    (fifty-two s a.known e is (asked a.edits.first a.new.now) (asked a.edits.second a.other.now) apart.result (apart.ensures s a.new.now a.other.now size) (ap not c.if-not-are_apart.false)
    one.result two.result (one.ensures s a.new.now size) (two.ensures s a.other.now size) c.if-known-past.true)

pub returns : goal.returns
returns c =
    let a = c.args in
    let s = letters_by a.known.form a.letters.now in
    let size = sym c.size_of-len.ensures in
    let apart = c.are_apart in
    let one = c.ends_after_transcript in
    let two = c.ends_after_transcript-2 in
    λ e is.
    let first = sym (c.in_ok-edit_refusal.ensures s size ∙ tests-bare s a.known.cds e a.edits.most (asked a.edits.first a.new.now)) in
    let second = sym (c.in_ok-edit_refusal-2.ensures s size ∙ tests-bare s a.known.cds e a.edits.other (asked a.edits.second a.other.now)) in
    early-pair a.edits.most a.edits.other (reference_of s a.known.cds e) (asked a.edits.first a.new.now) (asked a.edits.second a.other.now) first second 0
    (neither s a.known e is (asked a.edits.first a.new.now) (asked a.edits.second a.other.now) apart.result (apart.ensures s a.new.now a.other.now size) (ap not c.if-not-are_apart.false)
    one.result two.result (one.ensures s a.new.now size) (two.ensures s a.other.now size) c.if-known-past.false)
