-- "Letters and codons": one-letter and three-letter residue names, both ways, case counting.
use Rattle.std.specs.Prelude.{ℕ, ◌%◌, List, [], ◌∷◌, not, eqb, ltb, length, if◌then◌else◌}
use Prim.Native.Char.{Char}
use Prim.Native.String.{String}
use Rattle.rules.specs.Bytes.{byte, bytes, same, is_none, all, each, ◌↯◌, first_number, Result, unless}

pub record Name : Type 0 where
  pub one : ℕ
  pub three : List ℕ

infix 80 ◌is◌
abbrev pub ◌is◌ : Char → String → Name
c is s = record { one = byte c; three = bytes s }

-- IUPAC: 20 residues, U Sec, X Xaa, B Asx, Z Glx, `*` Ter
unfoldable pub names : List Name
names =
    "A" is "Ala" ∷ "R" is "Arg" ∷ "N" is "Asn" ∷ "D" is "Asp" ∷ "C" is "Cys"
    ∷ "Q" is "Gln" ∷ "E" is "Glu" ∷ "G" is "Gly" ∷ "H" is "His" ∷ "I" is "Ile"
    ∷ "L" is "Leu" ∷ "K" is "Lys" ∷ "M" is "Met" ∷ "F" is "Phe" ∷ "P" is "Pro"
    ∷ "S" is "Ser" ∷ "T" is "Thr" ∷ "W" is "Trp" ∷ "Y" is "Tyr" ∷ "V" is "Val"
    ∷ "U" is "Sec" ∷ "X" is "Xaa" ∷ "B" is "Asx" ∷ "Z" is "Glx" ∷ "*" is "Ter" ∷ []

-- the three letters of a residue, nothing for an unknown one
unfoldable pub three_in : List Name → ℕ → List ℕ
three_in [] r = []
three_in (n ∷ ns) r = if eqb r n.one then n.three else three_in ns r

-- the one letter of a name, nothing for an unknown one
unfoldable pub one_in : List Name → List ℕ → List ℕ
one_in [] s = []
one_in (n ∷ ns) s = if same s n.three then n.one ∷ [] else one_in ns s

unfoldable pub three_of : ℕ → List ℕ
three_of r = three_in names r

unfoldable pub one_of : List ℕ → List ℕ
one_of s = one_in names s

-- three bytes at a time; fewer at the end where the length is not divisible by three
unfoldable pub threes : List ℕ → List (List ℕ)
threes [] = []
threes (a ∷ []) = (a ∷ []) ∷ []
threes (a ∷ b ∷ []) = (a ∷ b ∷ []) ∷ []
threes (a ∷ b ∷ c ∷ s) = (a ∷ b ∷ c ∷ []) ∷ threes s

-- an unknown name or a length not divisible by three is refused (15), and an output that doesn't fit
unfoldable pub three_letters : List ℕ → ℕ → Result (List ℕ)
three_letters s room =
    unless (first_number
    (not (all (λ r. not (is_none (three_of r))) s) ↯ 15
    ∷ ltb room (length (each three_of s)) ↯ 15
    ∷ []))
    (each three_of s)

unfoldable pub one_letters : List ℕ → ℕ → Result (List ℕ)
one_letters s room =
    unless (first_number
    (not (eqb (length s % 3) 0) ↯ 15
    ∷ not (all (λ n. not (is_none (one_of n))) (threes s)) ↯ 15
    ∷ ltb room (length (each one_of (threes s))) ↯ 15
    ∷ []))
    (each one_of (threes s))
