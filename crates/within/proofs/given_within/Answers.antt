-- `within::given_within` meets its contract. Assumes nothing.
use mathlib.Core.Path.{refl, sym, ◌∙◌}
use Rattle.within.proofs.given_within.Goals as goal

pub returns-then-not-is_given_longest : goal.returns-then-not-is_given_longest
returns-then-not-is_given_longest c = record { handed = record {}; refused = (sym c.is_given_longest.ensures ∙ c.if-not-is_given_longest.true, refl) }

pub returns : goal.returns
returns c = record { handed = (sym c.is_given_longest.ensures ∙ c.if-not-is_given_longest.false, c.bases_within.ensures); refused = record {} }
