-- `places::entry_at` meets its contract: the sum has the place of the codon. Assumes nothing.
use Prim.Native.Nat.{ℕ, ◌<◌}
use native.Mathlib.Omega.{arith}
use lib.ListN.{get_or}
use Rattle.places.proofs.Entries.{entry-one}
use Rattle.places.proofs.entry_at.Goals as goal

pub returns : goal.returns
returns c =
    let args = c.args in
    let s = args.seq.now in
    let bytes : (k : ℕ) → get_or s k 0 < 256 = λ k. omega (arith, c.type_inv.seq k) in
    record { value = rw (c.entries_of.ensures, c.three_at.ensures) (entry-one s args.i bytes); small = omega arith }
