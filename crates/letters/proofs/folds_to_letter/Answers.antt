-- `letters::folds_to_letter` meets its contract: antt computes the two tests alike for all bytes. Assumes nothing.
use mathlib.Core.Bool.{false, ◌&&◌, not}
use mathlib.Core.Path.{refl}
use Prim.Native.Nat.{ℕ, ◌+◌}
use borrow.Author.Rules.{rules}
use lib.Bits.{bit_and}
use lib.Dec.{eqb, leb}
use Rattle.rules.specs.Letters.{letter_set, is_letter, upper, folded}
use Rattle.letters.proofs.Listed.{at_byte}
use Rattle.letters.proofs.folds_to_letter.Goals as goal

pub returns : goal.returns
unfolding letter_set is_letter upper folded
returns c =
    at_byte false (λ (b : ℕ).
    let u : ℕ = bit_and b 223 in
    (leb 65 u && leb u 89) && not (eqb (bit_and (u + 3) 250) 72) && not (leb 79 u && leb u 81) && not (eqb u 76) && not (eqb u 88))
    (λ (b : ℕ). is_letter (folded b)) refl c.args.b (search rules)
