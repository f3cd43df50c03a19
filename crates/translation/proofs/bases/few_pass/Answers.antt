-- `translation::few_pass` meets its contract: two parts that overlap decide together. Assumes nothing.
use Prim.Native.Nat.{◌-◌, ◌%◌}
use native.Mathlib.Omega.{arith}
use lib.ListN.{length}
use Rattle.letters.proofs.Loops.{both-parts}
use Rattle.translation.proofs.bases.few_pass.Goals as goal

pub returns : goal.returns
returns g c = λ p computes.
    let s = c.args.s.now in
    both-parts p s (length s - length s % 8) _ (omega arith) (c.all_bytes-2.ensures.value p computes) (c.all_bytes.ensures.value p computes)
