-- `letters::is_base_letter` meets its contract: antt computes the two tests alike for all letters. Assumes nothing.
use mathlib.Core.Bool.{true}
use mathlib.Core.Path.{refl}
use Prim.Native.Nat.{ℕ, ◌/◌, ◌%◌, ◌^◌}
use borrow.Author.Rules.{rules}
use lib.Dec.{eqb}
use Rattle.rules.specs.Letters.{letter_set, is_letter, upper, folded}
use Rattle.letters.specs.Sets.{folds_to_base}
use Rattle.letters.proofs.Sets.{at_letter}
use Rattle.letters.proofs.is_base_letter.Goals as goal

pub returns : goal.returns
unfolding letter_set is_letter upper folded folds_to_base
returns c = at_letter true (λ (k : ℕ). eqb (0x2cc6914 / 2 ^ (k % 32) % 2) 0) folds_to_base refl c.args.b (search rules)
