-- A byte's reading in plain translation, a letter's number, and what the tables of letter sets and of complements hold. Assumes nothing: these are definitions.
use Rattle.std.specs.Prelude.{ℕ, ◌+◌, ◌*◌, ◌/◌, ◌%◌, ◌<◌, List, [], ◌∷◌, Bool, ◌≡◌, get_or}
use Rattle.rules.specs.Letters.{letter_set, folded}
pub use Rattle.rules.specs.Letters.{is_base}
use Rattle.rules.specs.Complement.{complement}

-- the set of a byte in plain translation, and the empty set of a byte that it refuses
unfoldable pub folded_set : ℕ → ℕ
folded_set b = letter_set (folded b)

-- plain translation takes the byte for one base
unfoldable pub folds_to_base : ℕ → Bool
folds_to_base b = is_base (folded b)

-- the set that a reading of letters gives each byte stands at the byte, and is below 16
pub record HoldsSets (read : ℕ → ℕ) (xs : List ℕ) : Type 0 where
  pub entry : (b : ℕ) → b < 256 → get_or xs b 0 ≡ read b
  pub small : (b : ℕ) → b < 256 → get_or xs b 0 < 16

-- the set of a base, by its letter's number b / 2 % 4: A 0, C 1, T and U 2, G 3
abbrev pub base_set : ℕ → ℕ
base_set i = get_or (1 ∷ 2 ∷ 8 ∷ 4 ∷ []) i 0

-- the number of a letter of plain translation, either case, U as T: A 0, N 1, B 2, C 3, D 5, R 6, S 7, G 8, T 9, H 10, V 11, W 12, K 13, Y 14, M 15
abbrev pub letter_number : ℕ → ℕ
letter_number b = (b % 32 + b / 2 % 8 * 8 + 1) / 4 % 16

-- the set of the letter with a number; no letter has the number 4
abbrev pub set_at : ℕ → ℕ
set_at i = get_or (1 ∷ 15 ∷ 14 ∷ 2 ∷ 0 ∷ 13 ∷ 5 ∷ 6 ∷ 4 ∷ 8 ∷ 11 ∷ 7 ∷ 9 ∷ 12 ∷ 10 ∷ 3 ∷ []) i 0

-- the complement of each byte from 64 to 95 stands at its place, and all letters are among them
pub record HoldsComplements (xs : List ℕ) : Type 0 where
  pub entry : (i : ℕ) → i < 32 → get_or xs i 0 ≡ complement (64 + i)
