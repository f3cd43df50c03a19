-- `within::pair::pair_within` meets its contract. Assumes nothing.
use Rattle.rules.specs.Packed.{letters_by}
use Rattle.rules.specs.Views.{asked, reference_of}
use Rattle.pairs.specs.Carrying.{pair_room_of}
use Rattle.within.proofs.Within.{exit-set, pair-none, pair-second-none, pair-by}
use Rattle.within.proofs.pair.pair_within.Goals as goal

pub returns-in_err-given : goal.returns-in_err-given
returns-in_err-given c =
    let a = c.args in
    let no = c.in_err-given.ensures.refused in
    rw (exit-set _ _ c.from_residual.ensures.1 no.1) (pair-none a.longest a.second_longest (reference_of (letters_by a.asks.form a.letters.now) a.asks.cds a.asks.e) (asked a.asks.first a.new.now) (asked a.asks.second a.other.now) a.transcript.now a.altered.now no.0)

pub returns-in_err-second_given : goal.returns-in_err-second_given
returns-in_err-second_given c =
    let a = c.args in
    let no = c.in_err-second_given.ensures.refused in
    rw (exit-set _ _ c.from_residual-in_err-second_given.ensures.1 no.1) (pair-second-none a.longest a.second_longest (reference_of (letters_by a.asks.form a.letters.now) a.asks.cds a.asks.e) (asked a.asks.first a.new.now) (asked a.asks.second a.other.now) a.transcript.now a.altered.now c.in_ok-given.ensures.handed.0 no.0)

pub returns : goal.returns
returns c =
    let a = c.args in
    let given = c.in_ok-given.ensures.handed in
    let handed = c.in_ok-second_given.ensures.handed in
    pair-by a.longest a.second_longest given.0 handed.0
    (reference_of (letters_by a.asks.form a.letters.now) a.asks.cds a.asks.e) a.asks.first a.asks.second a.new.now a.other.now _ _ given.1 handed.1 (pair_room_of a.transcript.now a.altered.now) _ a.transcript.now _ a.altered.now _
    c.pair_altseq.ensures
