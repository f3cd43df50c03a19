-- `within::one::transcript_within` meets its contract. Assumes nothing.
use lib.ListN.{length}
use Rattle.rules.specs.Packed.{letters_by}
use Rattle.rules.specs.Views.{asked, reference_of}
use Rattle.within.proofs.Within.{exit-set, edited-none, edited-by}
use Rattle.within.proofs.one.transcript_within.Goals as goal

pub returns-in_err-given : goal.returns-in_err-given
returns-in_err-given c =
    let a = c.args in
    let no = c.in_err-given.ensures.refused in
    let whole = edited-none a.longest no.0 (reference_of (letters_by a.asks.form a.letters.now) a.asks.cds a.asks.e) (asked a.asks.edit a.new.now) a.transcript.now (length a.transcript.now) in
    rw (exit-set _ _ c.from_residual.ensures.1 no.1) (record { answer = whole.0; transcript_after = whole.1 })

pub returns : goal.returns
returns c =
    let a = c.args in
    let given = c.in_ok-given.ensures.handed in
    let whole = edited-by a.longest given.0 (reference_of (letters_by a.asks.form a.letters.now) a.asks.cds a.asks.e) a.asks.edit a.new.now _ given.1 (length a.transcript.now) _ a.transcript.now _
    (c.build_transcript.ensures.value, c.build_transcript.ensures.transcript_after) in
    record { answer = whole.0; transcript_after = whole.1 }
