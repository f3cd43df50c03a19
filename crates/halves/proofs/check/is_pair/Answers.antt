-- `halves::check::is_pair` meets its contract: antt computes the two tests alike for all bytes. Assumes nothing.
use Rattle.std.proofs.Common.{ℕ, ◌%◌, false, not, ◌&&◌, eqb, ltb, refl, rules}
use Rattle.rules.specs.Letters.{letter_set, is_letter}
use Rattle.rules.specs.Packed.{letter_of}
use Rattle.letters.proofs.Listed.{at_byte}
use Rattle.halves.specs.Halves.{are_pair}
use Rattle.halves.proofs.check.is_pair.Goals as goal

pub returns : goal.returns
unfolding are_pair letter_of letter_set is_letter
returns c = at_byte false (λ (b : ℕ). ltb 15 b && not (eqb (b % 16) 0)) (are_pair is_letter) refl c.args.b (search rules)
