-- `prefixes::common_prefix_len` meets its contract. The invariant: what is passed is equal, so the common beginning is i and that of the rests.
use native.Mathlib.Numerals.{add-one}
use native.Mathlib.Omega.{arith}
use Rattle.rules.proofs.Trims.{cp-more, cp-stop}
use Rattle.prefixes.proofs.Prefixes.{few_left}
use Rattle.prefixes.proofs.common_prefix_len.Goals as goal

pub returns-then-a-i : goal.returns-then-a-i
returns-then-a-i c = let args = c.args in
    omega (arith, cp-stop args.a.now args.b.now c.loop-i.i (omega arith) (omega arith) c.if-a-i.true)

pub loop-i-preserved : goal.loop-i-preserved
loop-i-preserved c =
    let args = c.args in
    simp add-one (omega (arith, cp-more args.a.now args.b.now c.loop-i.i (omega arith) (omega arith) c.if-a-i.false))

pub returns : goal.returns
returns c = let args = c.args in
    omega (arith, few_left args.a.now args.b.now c.loop-i.i 1 (omega arith) (omega arith))
