-- `letters::is_letter` meets its contract: antt computes the two tests alike for all bytes. Assumes nothing.
use mathlib.Core.Bool.{false, ◌&&◌, not}
use mathlib.Core.Path.{refl}
use Prim.Native.Nat.{ℕ, ◌/◌}
use borrow.Author.Rules.{rules}
use lib.Dec.{eqb}
use Rattle.rules.specs.Letters.{letter_set, is_letter, upper, folded}
use Rattle.letters.proofs.Listed.{at_byte}
use Rattle.letters.proofs.is_letter.Goals as goal

pub returns : goal.returns
unfolding letter_set is_letter upper folded
returns c =
    rw c.folds_to_letter.ensures
    (at_byte false (λ (b : ℕ). (eqb (b / 32) 2 && not (eqb b 85)) && is_letter (folded b)) is_letter refl c.args.b (search rules))
