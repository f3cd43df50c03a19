-- `packed::reading::even_codon` meets its contract. Assumes nothing.
use Prim.Native.Nat.{ℕ, ◌<◌}
use native.Mathlib.Omega.{arith}
use lib.ListN.{get_or}
use Rattle.packed.proofs.Codons.{even-entry}
use Rattle.packed.proofs.reading.even_codon.Goals as goal

pub returns : goal.returns
returns c = let s = c.args.packed.now in
    let bytes : (k : ℕ) → get_or s k 0 < 256 = λ k. omega (arith, c.type_inv.packed k) in
    cc (even-entry c.args.table c.args.lut.now s c.requires.holds_code bytes c.args.j)
