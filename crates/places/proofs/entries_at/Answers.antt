-- `places::entries_at` meets its contract: the sum has the places of both codons. Assumes nothing.
use Prim.Native.Nat.{ℕ, ◌<◌}
use native.Mathlib.Omega.{arith}
use lib.ListN.{get_or}
use Rattle.places.proofs.Entries.{entry_first, entry-second}
use Rattle.places.proofs.entries_at.Goals as goal

pub returns : goal.returns
returns c =
    let args = c.args in
    let s = args.seq.now in
    let bytes : (k : ℕ) → get_or s k 0 < 256 = λ k. omega (arith, c.type_inv.seq k) in
    rw (c.entries_of.ensures, c.eight_at.ensures) (record { result_value = entry_first s args.i bytes; second = entry-second s args.i bytes })
