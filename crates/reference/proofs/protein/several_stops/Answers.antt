-- `reference::protein::several_stops` meets its contract. The invariant: what is counted and what is left make the whole.
use mathlib.Core.Path.{◌≡◌, ap, ◌∙◌}
use native.Mathlib.Omega.{arith}
use lib.Dec.{ltb}
use Rattle.std.specs.Slice.Iter.{chunks_rest}
use Rattle.rules.specs.Bytes.{byte, count}
use Rattle.reference.proofs.Stops.{count_le, count-append}
use Rattle.reference.proofs.protein.several_stops.Goals as goal

pub overflow_add-stops : goal.overflow_add-stops
overflow_add-stops c =
    let step = c.in-Some.ensures.steps in
    let turn = ap (count (byte "*")) step.1.0 ∙ count-append (byte "*") c.in-Some.block.now (chunks_rest c.next.new.self) in
    omega (arith, turn, c.block_stops.ensures, c.from-stops.ensures, c.loop-block.invariant.0, count_le (byte "*") c.args.protein.now)

pub loop-block-preserved : goal.loop-block-preserved
loop-block-preserved c =
    let step = c.in-Some.ensures.steps in
    let turn = ap (count (byte "*")) step.1.0 ∙ count-append (byte "*") c.in-Some.block.now (chunks_rest c.next.new.self) in
    (omega (arith, turn, c.block_stops.ensures, c.from-stops.ensures, c.loop-block.invariant.0), step.0 ∙ c.loop-block.invariant.1)

pub returns : goal.returns
returns c =
    let l = c.loop-block in
    let all : l.stops ≡ count (byte "*") c.args.protein.now = omega (arith, count_le (byte "*") (chunks_rest l.block-iterator), l.invariant.0, c.in-None.ensures.steps.1.0) in
    ap (ltb 1) all
