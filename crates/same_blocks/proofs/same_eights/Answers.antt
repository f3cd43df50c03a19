-- `same_blocks::same_eights` meets its contract. The invariant: the first i eights are the same where all that was found is.
use mathlib.Core.Path.{◌≡◌, refl}
use Prim.Native.Nat.{◌+◌, ◌*◌}
use native.Mathlib.Omega.{arith}
use Rattle.rules.specs.Bytes.{same}
use Rattle.same_blocks.proofs.Eights.{same_more}
use Rattle.same_blocks.proofs.same_eights.Goals as goal

pub loop-i-init : goal.loop-i-init
unfolding same
loop-i-init g c = refl

pub loop-i-preserved : goal.loop-i-preserved
loop-i-preserved g c =
    let args = c.args in
    let i = c.loop-i.i in
    let next : (i + 1) * 8 ≡ i * 8 + 8 = omega arith in
    rw next (same_more args.a.now args.b.now args.k (i * 8) 8 (omega arith) (omega arith) c.loop-i.invariant c.same_eight-good.ensures)
