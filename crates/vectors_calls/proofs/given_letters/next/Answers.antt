-- Assumes nothing.
use mathlib.Core.Path.{refl}
use borrow.Author.Rules.{rules}
use Rattle.vectors_calls.specs.Letters.{next}
use Rattle.vectors_calls.proofs.given_letters.next.Goals as goal

pub returns : goal.returns
unfolding next
returns c = record { value = refl; below = search rules }
