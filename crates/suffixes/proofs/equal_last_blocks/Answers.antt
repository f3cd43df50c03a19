-- `suffixes::equal_last_blocks` meets its contract. The invariant: what is passed is equal. Assumes nothing.
use mathlib.Core.Path.{◌≡◌, sym, ◌∙◌}
use Prim.Native.Nat.{◌+◌, ◌*◌}
use native.Mathlib.Omega.{arith}
use Rattle.suffixes.proofs.Suffixes.{last_block}
use Rattle.suffixes.proofs.equal_last_blocks.Goals as goal

pub loop-k-preserved : goal.loop-k-preserved
loop-k-preserved c =
    let args = c.args in
    let i = c.loop-k.k * 64 in
    let next : (c.loop-k.k + 1) * 64 ≡ i + 64 = omega arith in
    let more = last_block args.a.now args.b.now 64 i (omega arith) (omega arith) (sym c.same_block.ensures ∙ c.if-not-same_block.false) in
    rw next (omega (arith, more))
