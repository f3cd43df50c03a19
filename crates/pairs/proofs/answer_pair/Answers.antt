-- `pairs::answer_pair` meets its contract. Assumes nothing.
use Rattle.rules.specs.Packed.{letters_by}
use Rattle.pairs.proofs.Answering.{refused-pair, goes-pair, carried-pair}
use Rattle.reference.proofs.Judging.{exit-told}
use Rattle.pairs.proofs.answer_pair.Goals as goal

pub returns-in_err-joint : goal.returns-in_err-joint
returns-in_err-joint c =
    let a = c.args in
    λ longest e is good.
    rw (exit-told _ _ c.from_residual.ensures.1)
    (refused-pair (letters_by a.known.form a.letters.now) a.known a.edits.first a.edits.second a.edits.most a.edits.other a.new.now a.other.now c.requires longest e is good _ a.transcript.now a.altered.now (c.in_err-joint.ensures e is))

pub carry_pair-requires : goal.carry_pair-requires
carry_pair-requires c =
    let a = c.args in
    let x = c.requires in
    goes-pair (letters_by a.known.form a.letters.now) a.known a.edits.first a.edits.second a.edits.most a.edits.other a.new.now a.other.now x x.longest x.known.exceptions x.known.is x.accepted _ (c.in_ok-joint.ensures x.known.exceptions x.known.is)

pub returns : goal.returns
returns c =
    let a = c.args in
    λ longest e is good.
    carried-pair (letters_by a.known.form a.letters.now) a.known a.edits.first a.edits.second a.edits.most a.edits.other a.new.now a.other.now c.requires longest e is good _ (c.in_ok-joint.ensures e is) _ a.transcript.now _ a.altered.now _ c.carry_pair.ensures
