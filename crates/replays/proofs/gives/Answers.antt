-- `replays::gives` meets its contract.
use Rattle.replays.proofs.Replaying.{replayed_at}
use Rattle.replays.proofs.gives.Goals as goal

pub returns : goal.returns
returns c =
    let end = c.min-end in
    let at = c.residues_before-at in
    let args = c.args in
    replayed_at args.number args.deleted.now args.inserted.now args.reference.now args.altered.now at.result end.result c.is_replaced.result
    at.ensures end.ensures c.is_replaced.ensures
