-- Laws of complements. Assumes nothing.
use mathlib.Core.Bool.{true}
use mathlib.Core.Path.{◌≡◌}
use Prim.Native.Nat.{ℕ, ◌+◌, ◌%◌}
use native.Mathlib.Omega.{arith}
use Rattle.rules.specs.Letters.{is_letter}
use Rattle.rules.specs.Complement.{complement}
use Rattle.letters.specs.Sets.{HoldsComplements}
use Rattle.letters.proofs.Listed.{listed, listed_at}
use Rattle.letters.proofs.Sets.{letter-within}

pub holds_complements : HoldsComplements (listed (λ i. complement (64 + i)) 0 32)
holds_complements = record { entry = λ i h. listed_at 0 (λ k. complement (64 + k)) 32 i h }

-- a letter is 64 and its place
pub at_place : (b : ℕ) → is_letter b ≡ true → 64 + b % 32 ≡ b
at_place b e = omega (arith, letter-within b e)
