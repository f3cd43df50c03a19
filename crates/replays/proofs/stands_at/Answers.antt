-- `replays::stands_at` meets its contract.
use mathlib.Core.Path.{◌∙◌}
use Rattle.replays.proofs.Replaying.{stands-there, stands-not}
use Rattle.replays.proofs.stands_at.Goals as goal

pub returns-then-reference-at : goal.returns-then-reference-at
returns-then-reference-at c =
    let args = c.args in
    let at = c.residues_before-at in
    λ put. stands-not args.number args.deleted.now put args.reference.now at.result at.ensures c.if-reference-at.true

pub returns : goal.returns
returns c =
    let args = c.args in
    let at = c.residues_before-at in
    λ put. c.equals.ensures ∙ stands-there args.number args.deleted.now put args.reference.now at.result at.ensures
