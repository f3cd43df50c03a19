-- `reference::protein::block_stops` meets its contract. The invariant: what is counted and what is left make the whole.
use mathlib.Core.Path.{◌∙◌}
use native.Mathlib.Omega.{arith}
use mathlib.Core.List.{[], ◌∷◌}
use lib.ListN.{get_or}
use Rattle.rules.specs.Bytes.{byte}
use Rattle.reference.proofs.Stops.{count_le, counted, count_turn, count-done}
use Rattle.reference.proofs.protein.block_stops.Goals as goal

pub overflow_add-stops : goal.overflow_add-stops
overflow_add-stops c =
    let y = get_or c.args.s.now c.loop-residue.residue-index 0 in
    let one = c.from-stops.ensures ∙ counted (byte "*") y in
    omega (arith, one, count_le (byte "*") (y ∷ []), c.loop-residue.invariant.0)

pub loop-residue-preserved : goal.loop-residue-preserved
loop-residue-preserved c =
    let s = c.args.s.now in
    let l = c.loop-residue in
    let y = get_or s l.residue-index 0 in
    let one = c.from-stops.ensures ∙ counted (byte "*") y in
    let turn = count_turn (byte "*") s l.residue-index c.loop-residue-test.true in
    (omega (arith, one, count_le (byte "*") (y ∷ []), l.invariant.0), omega (arith, one, turn, l.invariant.1))

pub returns : goal.returns
returns c =
    let l = c.loop-residue in
    omega (arith, count-done (byte "*") c.args.s.now l.residue-index c.loop-residue-test.false, l.invariant.1)
