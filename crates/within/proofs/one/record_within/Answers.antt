-- `within::one::record_within` meets its contract. Assumes nothing.
use Rattle.rules.specs.Packed.{letters_by}
use Rattle.rules.specs.Views.{asked, reference_of, room_of}
use Rattle.within.proofs.Within.{exit-set, outcome-none, outcome-by}
use Rattle.within.proofs.one.record_within.Goals as goal

pub returns-in_err-given : goal.returns-in_err-given
returns-in_err-given c =
    let a = c.args in
    let no = c.in_err-given.ensures.refused in
    rw (exit-set _ _ c.from_residual.ensures.1 no.1) (outcome-none a.longest no.0 (reference_of (letters_by a.asks.form a.letters.now) a.asks.cds a.asks.e) (asked a.asks.edit a.new.now) a.transcript.now a.reference.now a.altered.now)

pub returns : goal.returns
returns c =
    let a = c.args in
    let given = c.in_ok-given.ensures.handed in
    outcome-by a.longest given.0 (reference_of (letters_by a.asks.form a.letters.now) a.asks.cds a.asks.e) a.asks.edit a.new.now _ given.1 (room_of a.transcript.now a.reference.now a.altered.now) _ a.transcript.now _ a.reference.now _ a.altered.now _
    c.build_altseq.ensures
