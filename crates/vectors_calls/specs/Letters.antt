-- The letters of a reference and the new bases: by rule, and those that the line says.
use Rattle.std.specs.Prelude.{ℕ, zero, suc, ◌+◌, ◌-◌, ◌*◌, ◌%◌, List, [], ◌∷◌, ◌++◌, leb, ltb, length, take, drop, if◌then◌else◌}
use Rattle.rules.specs.Bytes.{byte, bytes}
use Rattle.vectors_calls.specs.Fields.{word_at, number_at, largest}

-- the next number of a row in which each below 65,536 comes once
unfoldable pub next : ℕ → ℕ
next x = (x * 25173 + 13849) % 65536

-- n letters, a or b, from the number x on
unfoldable pub filled : ℕ → ℕ → ℕ → ℕ → List ℕ
filled a b x zero = []
filled a b x (suc n) = (if ltb x 32768 then a else b) ∷ filled a b (next x) n

-- letters laid over others; `-` leaves the one that stands there
unfoldable pub laid : List ℕ → List ℕ → List ℕ
laid w [] = []
laid [] (x ∷ s) = x ∷ s
laid (b ∷ w) (x ∷ s) = (if ltb (byte "-") b then b else x) ∷ laid w s

-- from a place on, where it is inside
unfoldable pub laid_at : ℕ → List ℕ → List ℕ → List ℕ
laid_at at w s = if ltb at (length s) then take at s ++ laid w (drop at s) else s

-- so many places before a place; outside where there are not so many
unfoldable pub place_before : ℕ → ℕ → ℕ
place_before n back = if leb back n then n - back else largest

-- ATG from cs on and TAA up to ce; around them A or C, of which no table makes a stop
unfoldable pub coding_in : List ℕ → ℕ → List ℕ
coding_in line n =
    laid_at (place_before (number_at 2 line) 3) (bytes "TAA") (laid_at (place_before (number_at 1 line) 1) (bytes "ATG") (filled (byte "A") (byte "C") 1 n))

-- then the line's own letters
unfoldable pub reference_in : List ℕ → ℕ → List ℕ
reference_in line n = laid_at (number_at 15 line) (word_at 14 line) (coding_in line n)

-- C or G, of which no table makes a stop either, and the line's own letters
unfoldable pub new_in : List ℕ → ℕ → List ℕ
new_in line n = laid_at (number_at 17 line) (word_at 16 line) (filled (byte "C") (byte "G") 1 n)
