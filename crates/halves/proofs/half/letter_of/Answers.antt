-- `halves::half::letter_of` meets its contract: the table lists the letters, which antt computes. Assumes nothing.
use Rattle.std.proofs.Common.{ℕ, List, [], ◌∷◌, get_or, refl, rules}
use Rattle.rules.specs.Packed.{letter_of}
use Rattle.letters.proofs.Listed.{at_each}
use Rattle.halves.proofs.half.letter_of.Goals as goal

-- `halves::half::letter_of` meets its contract: the table lists the letters, which antt computes. Assumes nothing.
letters : List ℕ
letters = 0 ∷ 65 ∷ 67 ∷ 77 ∷ 71 ∷ 82 ∷ 83 ∷ 86 ∷ 84 ∷ 87 ∷ 89 ∷ 72 ∷ 75 ∷ 68 ∷ 66 ∷ 78 ∷ []

pub returns : goal.returns
unfolding letters letter_of
returns c = at_each 16 0 (λ (k : ℕ). get_or letters k 0) letter_of refl c.args.set (search rules)
