-- `replays::replays_to` meets its contract.
use Rattle.rules.specs.Check.{replays}
use Rattle.replays.proofs.replays_to.Goals as goal

pub returns : goal.returns
unfolding replays
returns c =
    let args = c.args in
    rw (c.stands_at-there.ensures args.inserted.now, c.gives.ensures)
