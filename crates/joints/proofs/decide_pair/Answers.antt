-- `joints::decide_pair` meets its contract. Assumes nothing.
use mathlib.Core.Path.{sym, ◌∙◌}
use Rattle.rules.specs.Packed.{letters_by}
use Rattle.rules.specs.Views.{bare, asked, reference_of}
use Rattle.edits.proofs.Planning.{planned}
use Rattle.joints.proofs.Joining.{tests-bare, plan-bare, none-early, joint-early, joint-stopped, joint-both}
use Rattle.reference.proofs.Judging.{exit-told}
use Rattle.joints.proofs.decide_pair.Goals as goal

pub returns-in_err-early_refusal : goal.returns-in_err-early_refusal
returns-in_err-early_refusal c =
    let a = c.args in
    λ e is. exit-told _ _ c.from_residual.ensures.1 ∙ joint-early a.edits.most a.edits.other (reference_of (letters_by a.known.form a.letters.now) a.known.cds e) (asked a.edits.first a.new.now) (asked a.edits.second a.other.now) _ (c.in_err-early_refusal.ensures e is)

pub plan_of-first-requires : goal.plan_of-first-requires
plan_of-first-requires c =
    let a = c.args in
    let pre = c.requires in
    let e = pre.knowing.exceptions in
    let none = none-early a.edits.most a.edits.other (reference_of (letters_by a.known.form a.letters.now) a.known.cds e) (asked a.edits.first a.new.now) (asked a.edits.second a.other.now) (sym (c.in_ok-early_refusal.ensures e pre.knowing.is)) in
    record { checks = pre.knowing.checks; planned = planned (bare (letters_by a.known.form a.letters.now) a.known.cds) pre.knowing.checks.sound a.edits.most (asked a.edits.first a.new.now) pre.most_bound.0 (tests-bare (letters_by a.known.form a.letters.now) a.known.cds e a.edits.most (asked a.edits.first a.new.now) ∙ none.0) }

pub plan_of-second-requires : goal.plan_of-second-requires
plan_of-second-requires c =
    let a = c.args in
    let pre = c.requires in
    let e = pre.knowing.exceptions in
    let none = none-early a.edits.most a.edits.other (reference_of (letters_by a.known.form a.letters.now) a.known.cds e) (asked a.edits.first a.new.now) (asked a.edits.second a.other.now) (sym (c.in_ok-early_refusal.ensures e pre.knowing.is)) in
    record { checks = pre.knowing.checks; planned = planned (bare (letters_by a.known.form a.letters.now) a.known.cds) pre.knowing.checks.sound a.edits.other (asked a.edits.second a.other.now) pre.most_bound.1 (tests-bare (letters_by a.known.form a.letters.now) a.known.cds e a.edits.other (asked a.edits.second a.other.now) ∙ none.1) }

pub returns-then-first-second : goal.returns-then-first-second
returns-then-first-second c =
    let a = c.args in
    λ e is.
    joint-stopped a.edits.most a.edits.other (reference_of (letters_by a.known.form a.letters.now) a.known.cds e) (asked a.edits.first a.new.now) (asked a.edits.second a.other.now) (sym (c.in_ok-early_refusal.ensures e is))
    c.plan_of-first.result c.plan_of-second.result (c.plan_of-first.ensures ∙ plan-bare (letters_by a.known.form a.letters.now) a.known.cds e (asked a.edits.first a.new.now)) (c.plan_of-second.ensures ∙ plan-bare (letters_by a.known.form a.letters.now) a.known.cds e (asked a.edits.second a.other.now)) c.if-first-second.true

pub returns : goal.returns
returns c =
    let a = c.args in
    λ e is.
    joint-both a.edits.most a.edits.other (reference_of (letters_by a.known.form a.letters.now) a.known.cds e) (asked a.edits.first a.new.now) (asked a.edits.second a.other.now) (sym (c.in_ok-early_refusal.ensures e is))
    c.plan_of-first.result c.plan_of-second.result (c.plan_of-first.ensures ∙ plan-bare (letters_by a.known.form a.letters.now) a.known.cds e (asked a.edits.first a.new.now)) (c.plan_of-second.ensures ∙ plan-bare (letters_by a.known.form a.letters.now) a.known.cds e (asked a.edits.second a.other.now)) c.if-first-second.false
