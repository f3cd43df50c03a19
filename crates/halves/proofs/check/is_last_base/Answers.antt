-- `halves::check::is_last_base` meets its contract: antt computes the two tests alike for all bytes. Assumes nothing.
use Rattle.std.proofs.Common.{ℕ, false, ◌||◌, eqb, refl, rules}
use Rattle.rules.specs.Letters.{letter_set, is_letter}
use Rattle.rules.specs.Packed.{letter_of}
use Rattle.rules.specs.Letters.{is_base}
use Rattle.letters.proofs.Listed.{at_byte}
use Rattle.halves.specs.Halves.{is_last}
use Rattle.halves.proofs.check.is_last_base.Goals as goal

pub returns : goal.returns
unfolding is_last letter_of letter_set is_letter
returns c = at_byte false (λ (b : ℕ). eqb b 16 || eqb b 32 || eqb b 64 || eqb b 128) (is_last is_base) refl c.args.b (search rules)
