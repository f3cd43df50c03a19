-- `letters::folds_to_base` meets its contract: antt computes the two tests alike for all bytes. Assumes nothing.
use mathlib.Core.Bool.{false, ◌||◌}
use mathlib.Core.Path.{refl}
use Prim.Native.Nat.{ℕ}
use borrow.Author.Rules.{rules}
use lib.Bits.{bit_and}
use lib.Dec.{eqb}
use Rattle.rules.specs.Letters.{upper, folded}
use Rattle.letters.specs.Sets.{folds_to_base}
use Rattle.letters.proofs.Listed.{at_byte}
use Rattle.letters.proofs.folds_to_base.Goals as goal

pub returns : goal.returns
unfolding upper folded folds_to_base
returns c =
    at_byte false (λ (b : ℕ).
    let u : ℕ = bit_and b 223 in
    eqb u 65 || eqb u 67 || eqb u 71 || eqb u 84 || eqb u 85)
    folds_to_base refl c.args.b (search rules)
