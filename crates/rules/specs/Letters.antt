-- "Letters and codons": a letter is a set of bases, and a set is the sum of its bases: A 1, C 2, G 4, T 8.
use Rattle.std.specs.Prelude.{ℕ, ◌+◌, ◌-◌, List, [], ◌∷◌, Bool, true, false, ◌&&◌, eqb, leb, ltb, if◌then◌else◌}
use Prim.Native.Char.{Char}
use Prim.Native.String.{String}
use Rattle.rules.specs.Bytes.{byte, bytes}

abbrev pub pick : Bool → ℕ → ℕ → ℕ
pick true a b = a
pick false a b = b

-- what stands beside a byte in a list of pairs, and 0 where it is in none
abbrev pub value_of : ℕ → List (ℕ × ℕ) → ℕ
value_of b [] = 0
value_of b (p ∷ ps) = pick (eqb b p.0) p.1 (value_of b ps)

abbrev pub bases : List (ℕ × ℕ)
bases = (byte "A", 1) ∷ (byte "C", 2) ∷ (byte "G", 4) ∷ (byte "T", 8) ∷ []

-- one of the four bases: A, C, G, T
abbrev pub is_base : ℕ → Bool
is_base b = ltb 0 (value_of b bases)

-- the set of the bases named
abbrev pub set_of : List ℕ → ℕ
set_of [] = 0
set_of (b ∷ bs) = value_of b bases + set_of bs

abbrev pub letter : Char → String → ℕ × ℕ
letter c s = (byte c, set_of (bytes s))

-- A, C, G, T; R=AG, Y=CT, S=CG, W=AT, K=GT, M=AC, B=CGT, D=AGT, H=ACT, V=ACG, N=ACGT
abbrev pub letters : List (ℕ × ℕ)
letters =
    letter "A" "A" ∷ letter "C" "C" ∷ letter "G" "G" ∷ letter "T" "T"
    ∷ letter "R" "AG" ∷ letter "Y" "CT" ∷ letter "S" "CG" ∷ letter "W" "AT" ∷ letter "K" "GT" ∷ letter "M" "AC"
    ∷ letter "B" "CGT" ∷ letter "D" "AGT" ∷ letter "H" "ACT" ∷ letter "V" "ACG" ∷ letter "N" "ACGT"
    ∷ []

-- the set of an upper_case letter, and the empty set of any other byte
unfoldable pub letter_set : ℕ → ℕ
letter_set b = value_of b letters

-- one of the fifteen
unfoldable pub is_letter : ℕ → Bool
is_letter b = ltb 0 (letter_set b)

-- a byte a to z in upper case
unfoldable pub upper : ℕ → ℕ
upper b = if leb (byte "a") b && leb b (byte "z") then b - 32 else b

-- plain translation takes either case, and U as T
unfoldable pub folded : ℕ → ℕ
folded b = if eqb (upper b) (byte "U") then byte "T" else upper b
