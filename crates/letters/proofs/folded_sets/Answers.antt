-- `letters::folded_sets` meets its contract: the table lists the reading, which antt computes. Assumes nothing.
use mathlib.Core.Path.{refl}
use Rattle.rules.specs.Letters.{letter_set, upper, folded}
use Rattle.letters.specs.Sets.{folded_set}
use Rattle.letters.proofs.Listed.{holds_sets}
use Rattle.letters.proofs.folded_sets.Goals as goal

pub returns : goal.returns
unfolding letter_set upper folded folded_set
returns c = holds_sets folded_set refl
