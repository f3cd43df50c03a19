-- "Letters and codons": the reverse complement reverses the letters and complements each set.
use Rattle.std.specs.Prelude.{ℕ, List, [], ◌∷◌, map, reverse, not, eqb, ltb, length, if◌then◌else◌}
use Prim.Native.Char.{Char}
use Rattle.rules.specs.Bytes.{byte, all, ◌↯◌, first_number, Result, unless}
use Rattle.rules.specs.Letters.{is_letter}

abbrev pub pair : Char → Char → ℕ × ℕ
pair a b = (byte a, byte b)

-- A-T, C-G, R-Y, K-M, B-V, D-H; S, W, N stay
abbrev pub partners : List (ℕ × ℕ)
partners = pair "A" "T" ∷ pair "C" "G" ∷ pair "R" "Y" ∷ pair "K" "M" ∷ pair "B" "V" ∷ pair "D" "H" ∷ []

-- the other of a letter's pair, or the letter
unfoldable pub partner_in : List (ℕ × ℕ) → ℕ → ℕ
partner_in [] b = b
partner_in (p ∷ ps) b = if eqb b p.0 then p.1 else if eqb b p.1 then p.0 else partner_in ps b

unfoldable pub complement : ℕ → ℕ
complement b = partner_in partners b

unfoldable pub reverse_complement : List ℕ → List ℕ
reverse_complement s = reverse (map complement s)

-- called alone, it refuses a short output (15), then a byte outside the fifteen (2)
unfoldable pub complemented : List ℕ → ℕ → Result (List ℕ)
complemented s room =
    unless (first_number
    (ltb room (length s) ↯ 15
    ∷ not (all is_letter s) ↯ 2
    ∷ []))
    (reverse_complement s)
