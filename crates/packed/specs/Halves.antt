-- Codons among packed letters, and the letters of each byte. Assumes nothing: these are definitions.
use Rattle.std.specs.Prelude.{ℕ, ◌+◌, ◌*◌, ◌/◌, ◌%◌, ◌≤◌, ◌<◌, ◌≡◌, true, List, length, get_or}
use Rattle.rules.specs.declared.Form.{Form}
use Rattle.rules.specs.Bytes.{all}
use Rattle.rules.specs.Letters.{is_letter}
use Rattle.rules.specs.Altered.{part}
use Rattle.rules.specs.Packed.{letter_of, letters_in, letters_by}

-- so many codons from a place on
unfoldable pub codons_at : ℕ → ℕ → List ℕ → List ℕ
codons_at first n bs = part first (first + n * 3) (letters_in bs)

-- the two letters of each byte, the first in the low byte of their number
pub record HoldsPairs (xs : List ℕ) : Type 0 where
  pub entry : (b : ℕ) → b < 256 → get_or xs b 0 ≡ letter_of (b / 16 % 16) + letter_of (b % 16) * 256

-- the letters from..to of a reference whose letters were looked at
pub record InLetters (form : Form) (s : List ℕ) (from to : ℕ) : Type 0 where
  pub letters : all is_letter (letters_by form s) ≡ true
  pub rising : from ≤ to
  pub ends : to ≤ length (letters_by form s)
