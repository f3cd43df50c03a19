-- `replays::is_replaced` meets its contract.
use native.Mathlib.Omega.{arith}
use Rattle.replays.proofs.Replaying.{too_short, three-parts}
use Rattle.replays.proofs.is_replaced.Goals as goal

pub returns-then-altered-at : goal.returns-then-altered-at
returns-then-altered-at c =
    let args = c.args in
    too_short args.reference.now args.altered.now args.put.now args.at args.end c.requires.0 (omega arith)

pub returns-then-altered-at-2 : goal.returns-then-altered-at-2
returns-then-altered-at-2 c =
    let args = c.args in
    too_short args.reference.now args.altered.now args.put.now args.at args.end c.requires.0 (omega arith)

pub returns : goal.returns
returns c =
    let args = c.args in
    three-parts args.reference.now args.altered.now args.put.now args.at args.end c.requires.0
    c.equals-before.result c.equals-there.result c.equals.result
    c.equals-before.ensures c.equals-there.ensures c.equals.ensures
