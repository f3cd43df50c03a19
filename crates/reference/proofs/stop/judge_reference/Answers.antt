-- `reference::stop::judge_reference` meets its contract. Assumes nothing.
use mathlib.Core.Path.{◌∙◌}
use Rattle.rules.specs.Packed.{letters_by}
use Rattle.reference.specs.Known.{early_of}
use Rattle.reference.proofs.Judging.{exit-told, was-refused, was-given, readable, judged-early, judged-clear, judged-late}
use Rattle.reference.proofs.stop.judge_reference.Goals as goal

pub returns-in_err-plain : goal.returns-in_err-plain
unfolding early_of
returns-in_err-plain c =
    let a = c.args in
    exit-told _ _ c.from_residual.ensures.1 ∙ judged-early a.longest (letters_by a.form a.letters.now) a.c a.e _ (was-refused _ _ _ c.in_err-plain.ensures).0

pub end_refusal-requires : goal.end_refusal-requires
unfolding early_of
end_refusal-requires c =
    let a = c.args in
    let early = was-given _ _ _ c.in_ok-plain.ensures in
    record { readable = readable a.longest (letters_by a.form a.letters.now) a.c a.e early.0 c.requires; plain_value = early.1 }

pub returns-in_err-end_refusal : goal.returns-in_err-end_refusal
unfolding early_of
returns-in_err-end_refusal c =
    let a = c.args in
    let early = was-given _ _ _ c.in_ok-plain.ensures in
    exit-told _ _ c.from_residual-in_err-end_refusal.ensures.1 ∙ judged-late a.longest (letters_by a.form a.letters.now) a.c a.e early.0 _ c.in_err-end_refusal.ensures

pub returns : goal.returns
unfolding early_of
returns c =
    let a = c.args in
    let early = was-given _ _ _ c.in_ok-plain.ensures in
    judged-clear a.longest (letters_by a.form a.letters.now) a.c a.e early.0 _ early.1 c.in_ok-end_refusal.ensures
