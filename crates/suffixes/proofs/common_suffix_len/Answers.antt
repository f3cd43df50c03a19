-- `suffixes::common_suffix_len` meets its contract. The invariant: what is passed is equal, so the common ending is i and that of the rests.
use Prim.Native.Nat.{◌-◌}
use native.Mathlib.Omega.{arith}
use lib.ListN.{length, take, length-take}
use Rattle.rules.proofs.Trims.{cs_le_l, cs_le_r, cs-more-at, cs-stop-at}
use Rattle.suffixes.proofs.common_suffix_len.Goals as goal

pub returns-then-a-i : goal.returns-then-a-i
returns-then-a-i c =
    let args = c.args in
    omega (arith, cs-stop-at args.a.now args.b.now c.loop-i.i (omega arith) (omega arith) c.if-a-i.true)

pub loop-i-preserved : goal.loop-i-preserved
loop-i-preserved c =
    let args = c.args in
    omega (arith, cs-more-at args.a.now args.b.now c.loop-i.i (omega arith) (omega arith) c.if-a-i.false)

pub returns : goal.returns
returns c =
    let a = c.args.a.now in
    let b = c.args.b.now in
    let m = length a - c.loop-i.i in
    let n = length b - c.loop-i.i in
    omega (arith, cs_le_l (take m a) (take n b), cs_le_r (take m a) (take n b), length-take m a, length-take n b)
