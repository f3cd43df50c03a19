-- `altseq::alone::transcribe_in` meets its contract. Assumes nothing.
use mathlib.Core.Path.{refl, ◌∙◌}
use native.Mathlib.Omega.{arith}
use lib.ListN.{length}
use Rattle.rules.specs.Packed.{letters_by}
use Rattle.rules.specs.Refusal.{limits}
use Rattle.rules.specs.Views.{asked, reference_of}
use Rattle.reference.proofs.Judging.{exit-told}
use Rattle.reference.proofs.Checking.{checked_refused}
use Rattle.altseq.proofs.Transcribing.{meets_none, fits_more, made-short, made, reference-refused, asks-known, edit-refused, edit-open, edit-goes, edit-fits}
use Rattle.altseq.proofs.alone.transcribe_in.Goals as goal

pub returns-in_err-known : goal.returns-in_err-known
returns-in_err-known c =
    let a = c.args in
    let s = letters_by a.asks.form a.letters.now in
    let no = checked_refused limits.longest a.asks.form s a.asks.cds a.asks.e _ c.in_err-known.ensures.value in
    let whole = meets_none _ _ a.transcript.now (reference-refused limits (reference_of s a.asks.cds a.asks.e) (asked a.asks.edit a.new.now) (length a.transcript.now) _ no.0 no.1) in
    record { value = exit-told _ _ c.from_residual.ensures.1 ∙ whole.0; transcript_after = whole.1 }

pub decide-requires : goal.decide-requires
decide-requires c =
    let a = c.args in
    record { checks = asks-known a.asks.form a.letters.now a.asks.cds a.asks.e _ c.in_ok-known.ensures.value; most_bound = omega arith }

pub returns-in_err-plan : goal.returns-in_err-plan
returns-in_err-plan c =
    let a = c.args in
    let whole = meets_none _ _ a.transcript.now (edit-refused a.asks.form a.letters.now a.asks.cds a.asks.e _ c.in_ok-known.ensures.value (asked a.asks.edit a.new.now) (length a.transcript.now) _ c.in_err-plan.ensures) in
    record { value = exit-told _ _ c.from_residual-in_err-plan.ensures.1 ∙ whole.0; transcript_after = whole.1 }

pub returns-in_default : goal.returns-in_default
returns-in_default c =
    let a = c.args in
    let whole = meets_none _ _ a.transcript.now (edit-open a.asks.form a.letters.now a.asks.cds a.asks.e _ c.in_ok-known.ensures.value (asked a.asks.edit a.new.now) (length a.transcript.now) (rw c.in_default.is at c.in_ok-plan.ensures)) in
    record { value = whole.0; transcript_after = whole.1 }

pub returns-then-transcript-plan : goal.returns-then-transcript-plan
returns-then-transcript-plan c =
    let a = c.args in
    let goes = edit-goes a.asks.form a.letters.now a.asks.cds a.asks.e _ c.in_ok-known.ensures.value (asked a.asks.edit a.new.now) (length a.transcript.now) _ (rw c.in-Some.is at c.in_ok-plan.ensures) in
    let whole = meets_none _ _ a.transcript.now (goes ∙ made-short c.in-Some.plan (letters_by a.asks.form a.letters.now) a.new.now (length a.transcript.now) c.if-transcript-plan.true) in
    record { value = whole.0; transcript_after = whole.1 }

pub write_transcript-length-requires : goal.write_transcript-length-requires
write_transcript-length-requires c =
    let a = c.args in
    let fits = edit-fits a.asks.form a.letters.now a.asks.cds a.asks.e _ c.in_ok-known.ensures.value (asked a.asks.edit a.new.now) _ (rw c.in-Some.is at c.in_ok-plan.ensures) in
    fits_more c.in-Some.plan (letters_by a.asks.form a.letters.now) a.new.now _ _ fits c.if-transcript-plan.false

pub returns : goal.returns
returns c =
    let a = c.args in
    let goes = edit-goes a.asks.form a.letters.now a.asks.cds a.asks.e _ c.in_ok-known.ensures.value (asked a.asks.edit a.new.now) (length a.transcript.now) _ (rw c.in-Some.is at c.in_ok-plan.ensures) in
    let wrote = c.write_transcript-length in
    let is = made c.in-Some.plan (letters_by a.asks.form a.letters.now) a.new.now (length a.transcript.now) c.if-transcript-plan.false in
    rw (goes, is, wrote.ensures.value) (record { value = refl; transcript_after = wrote.ensures.transcript_after })
