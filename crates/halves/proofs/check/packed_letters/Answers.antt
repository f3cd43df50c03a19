-- `halves::check::packed_letters` meets its contract. Assumes nothing.
use Rattle.std.proofs.Common.{refl, rules}
use Rattle.rules.specs.Letters.{letter_set, is_letter}
use Rattle.halves.proofs.check.packed_letters.Goals as goal

pub returns : goal.returns
unfolding is_letter letter_set
returns c = c.packed_pass.ensures is_letter refl (search rules) (search rules)
