-- `packed::compare::block_prefix` meets its contract. Assumes nothing.
use mathlib.Core.Path.{◌≡◌, sym, ap, ◌∙◌}
use mathlib.Core.List.{List}
use Prim.Native.Nat.{ℕ, ◌+◌}
use native.Mathlib.Omega.{arith}
use lib.ListN.{length, take}
use Rattle.rules.specs.Trims.{common_prefix}
use Rattle.rules.specs.Altered.{part}
use Rattle.rules.proofs.Over.{read_back}
use Rattle.rules.specs.Packed.{letters_in}
use Rattle.halves.proofs.Halves.{length_of_part}
use Rattle.packed.proofs.compare.block_prefix.Goals as goal

pub returns : goal.returns
returns c = let n = length c.args.new.now in
    let p = part c.args.at (c.args.at + n) (letters_in c.args.packed.now) in
    let long : n ≡ length p = sym (length_of_part c.args.at (c.args.at + n) c.args.packed.now c.requires.in_bounds ∙ omega arith) in
    let back : take n c.unpack_part.new.out ≡ p = read_back p _ _ n long c.unpack_part.ensures in
    c.common_prefix_len.ensures ∙ ap (λ (l : List ℕ). common_prefix l c.args.new.now) back
