-- `packed::unpack::pair_at` meets its contract. Assumes nothing.
use Prim.Native.Nat.{◌<◌}
use native.Mathlib.Omega.{arith}
use lib.ListN.{get_or}
use Rattle.packed.proofs.Pairs.{first-letter, second-letter}
use Rattle.packed.proofs.unpack.pair_at.Goals as goal

pub returns : goal.returns
returns c = let s = c.args.packed.now in
    let j = c.args.j in
    let byte : get_or s j 0 < 256 = omega (arith, c.type_inv.packed j) in
    record { first = rw c.from.ensures (first-letter c.args.pairs.now s c.requires.holds_pairs j byte); second = rw c.from.ensures (second-letter c.args.pairs.now s c.requires.holds_pairs j byte) }
