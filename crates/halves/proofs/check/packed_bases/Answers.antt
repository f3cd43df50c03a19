-- `halves::check::packed_bases` meets its contract. Assumes nothing.
use Rattle.std.proofs.Common.{refl, rules}
use Rattle.rules.specs.Letters.{letter_set, is_letter, is_base}
use Rattle.halves.proofs.check.packed_bases.Goals as goal

pub returns : goal.returns
unfolding is_letter letter_set
returns c = c.packed_pass.ensures is_base refl (search rules) (search rules)
