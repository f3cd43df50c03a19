-- `places::pair_at` meets its contract: the product has the places of both codons. Assumes nothing.
use Prim.Native.Nat.{ℕ, ◌<◌}
use native.Mathlib.Omega.{arith}
use lib.ListN.{get_or}
use Rattle.places.proofs.Places.{first-place, second-place}
use Rattle.places.proofs.pair_at.Goals as goal

pub returns : goal.returns
returns c =
    let args = c.args in
    let s = args.seq.now in
    let bytes : (k : ℕ) → get_or s k 0 < 256 = λ k. omega (arith, c.type_inv.seq k) in
    rw c.eight_at.ensures (record { result_value = first-place s args.i bytes; second = second-place s args.i bytes })
