-- `proposals::judge` meets its contract.
use Rattle.replays.specs.Proposed.{proposed}
use Rattle.proposals.proofs.Laws.{both-no, first-yes}
use mathlib.Core.Path.{ap}
use mathlib.Core.Bool.{not}
use Rattle.proposals.proofs.judge.Goals as goal

pub returns-then-not-replays_to : goal.returns-then-not-replays_to
returns-then-not-replays_to c =
    let args = c.args in
    let first = c.replays_to in
    let whole = both-no (proposed args.number args.deleted.now args.inserted.now) args.reference.now args.altered.now first.result first.ensures
    (ap not c.if-not-replays_to.true) in
    record { replays_value = whole.0; shortest_value = whole.1 }

pub returns : goal.returns
returns c =
    let args = c.args in
    let first = c.replays_to in
    let second = c.parts_there in
    let whole = first-yes (proposed args.number args.deleted.now args.inserted.now) args.reference.now args.altered.now first.result first.ensures
    (ap not c.if-not-replays_to.false) second.result (second.ensures args.inserted.now) in
    record { replays_value = whole.0; shortest_value = whole.1 }
