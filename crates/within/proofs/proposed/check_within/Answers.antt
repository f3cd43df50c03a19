-- `within::proposed::check_within` meets its contract. Assumes nothing.
use Rattle.rules.specs.Packed.{letters_by}
use Rattle.rules.specs.Views.{asked, reference_of, room_of}
use Rattle.proposals.specs.Proposed.{proposed}
use Rattle.within.proofs.Within.{exit-set, check-none, check-by}
use Rattle.within.proofs.proposed.check_within.Goals as goal

pub returns-in_err-given : goal.returns-in_err-given
returns-in_err-given c =
    let a = c.args in
    let no = c.in_err-given.ensures.refused in
    rw (exit-set _ _ c.from_residual.ensures.1 no.1) (check-none a.claim.longest no.0 (reference_of (letters_by a.claim.proposed.asks.form a.letters.now) a.claim.proposed.asks.cds a.claim.proposed.asks.e) (asked a.claim.proposed.asks.edit a.new.now) (proposed a.claim.proposed.number a.deleted.now a.inserted.now) a.transcript.now a.reference.now a.altered.now)

pub returns : goal.returns
returns c =
    let a = c.args in
    let given = c.in_ok-given.ensures.handed in
    check-by a.claim.longest given.0 (reference_of (letters_by a.claim.proposed.asks.form a.letters.now) a.claim.proposed.asks.cds a.claim.proposed.asks.e) a.claim.proposed.asks.edit a.new.now _ given.1 (proposed a.claim.proposed.number a.deleted.now a.inserted.now) (room_of a.transcript.now a.reference.now a.altered.now) _ a.transcript.now _ a.reference.now _ a.altered.now _
    c.check_altseq.ensures
