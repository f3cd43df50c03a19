-- All codons of the fifteen letters in a row, first letter slowest.
use Rattle.std.specs.Prelude.{ℕ, zero, suc, ◌/◌, ◌%◌, List, [], ◌∷◌, eqb, get_or, if◌then◌else◌}
use Rattle.rules.specs.Bytes.{bytes}

abbrev pub fifteen : List ℕ
fifteen = bytes "ACGTRYSWKMBDHVN"

-- which of the fifteen stands at place j
unfoldable pub number_at : ℕ → ℕ
number_at j = if eqb (j % 3) 0 then j / 675 else if eqb (j % 3) 1 then (j / 45 % 15) else (j / 3 % 15)

unfoldable pub letter_at : ℕ → ℕ
letter_at j = get_or fifteen (number_at j) 0

-- n letters from place j on
unfoldable pub letters_from : ℕ → ℕ → List ℕ
letters_from j zero = []
letters_from j (suc n) = letter_at j ∷ letters_from (suc j) n
