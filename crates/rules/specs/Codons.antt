-- "Letters and codons": the residue of a codon of three letter sets, in each of the three tables.
use Rattle.std.specs.Prelude.{ℕ, zero, suc, ◌+◌, ◌*◌, ◌/◌, ◌%◌, Bool, true, false, ◌&&◌, ◌||◌, List, [], ◌∷◌, ◌++◌, eqb, leb, get_or, set, if◌then◌else◌}
use Prim.Native.Char.{Char}
use Prim.Native.String.{String}
use Rattle.rules.specs.Bytes.{byte, bytes}
use Rattle.rules.specs.Letters.{value_of, letter_set}

-- first base slowest, order T, C, A, G: a base's number
abbrev pub order : List (ℕ × ℕ)
order = (byte "T", 0) ∷ (byte "C", 1) ∷ (byte "A", 2) ∷ (byte "G", 3) ∷ []

-- where a plain codon stands among the 64, behind the bases that make n
abbrev pub place_from : ℕ → List ℕ → ℕ
place_from n [] = n
place_from n (b ∷ bs) = place_from (n * 4 + value_of b order) bs

-- a code with one codon read as another residue
abbrev pub reading : String → Char → List ℕ → List ℕ
reading codon r residues = set residues (place_from 0 (bytes codon)) (byte r)

-- table 0, NCBI's code 1
abbrev pub standard : List ℕ
standard = bytes "FFLLSSSSYY**CC*WLLLLPPPPHHQQRRRRIIIMTTTTNNKKSSRRVVVVAAAADDEEGGGG"

-- table 1 is table 0 with TGA read as U; table 2 reads TGA as W, ATA as M, AGA and AGG as `*`
abbrev pub genetic_code : ℕ → List ℕ
genetic_code zero = standard
genetic_code (suc zero) = reading "TGA" "U" standard
genetic_code (suc (suc zero)) = reading "TGA" "W" (reading "ATA" "M" (reading "AGA" "*" (reading "AGG" "*" standard)))
genetic_code (suc (suc (suc t))) = []

unfoldable pub is_table : ℕ → Bool
is_table table = leb table 2

-- the residue X
abbrev pub residue_x : ℕ
residue_x = byte "X"

-- the residue of a plain codon, its bases by their numbers
abbrev pub plain_codon : ℕ → ℕ → ℕ → ℕ → ℕ
plain_codon t i j k = get_or (genetic_code t) (i * 16 + j * 4 + k) residue_x

-- what a base adds to a set, by the base's number
abbrev pub bit_of : ℕ → ℕ
bit_of i = get_or (8 ∷ 2 ∷ 1 ∷ 4 ∷ []) i 0

-- a base before others, where its bit is 1
abbrev pub with_base : ℕ → ℕ → List ℕ → List ℕ
with_base zero i is = is
with_base (suc b) i is = i ∷ is

-- the bases of a set, by their numbers
abbrev pub bases_of : ℕ → List ℕ
bases_of s =
    with_base (s / bit_of 0 % 2) 0 (with_base (s / bit_of 1 % 2) 1 (with_base (s / bit_of 2 % 2) 2 (with_base (s / bit_of 3 % 2) 3 [])))

-- what f gives for each base, in a row
abbrev pub for_each : List ℕ → (ℕ → List ℕ) → List ℕ
for_each [] f = []
for_each (i ∷ is) f = f i ++ for_each is f

-- a codon with ambiguous letters is expanded one letter at a time: the residues of all its plain codons
abbrev pub residues : ℕ → ℕ → ℕ → ℕ → List ℕ
residues t a b c =
    for_each (bases_of a) λ i. for_each (bases_of b) λ j. for_each (bases_of c) λ k. plain_codon t i j k ∷ []

-- each residue is x
abbrev pub all_are : ℕ → List ℕ → Bool
all_are x [] = true
all_are x (r ∷ rs) = if eqb r x then all_are x rs else false

-- one of them is x
abbrev pub is_among : ℕ → List ℕ → Bool
is_among x [] = false
is_among x (r ∷ rs) = if eqb r x then true else is_among x rs

-- each is x or y
abbrev pub no_third : ℕ → ℕ → List ℕ → Bool
no_third x y [] = true
no_third x y (r ∷ rs) = if eqb r x || eqb r y then no_third x y rs else false

-- exactly x and y: both are there, and no third
abbrev pub exactly : ℕ → ℕ → List ℕ → Bool
exactly x y rs = no_third x y rs && is_among x rs && is_among y rs

-- of residues that aren't all one (E2): exactly D and N is B, exactly E and Q is Z, every other mix is X
abbrev pub mixed : List ℕ → ℕ
mixed rs =
    if exactly (byte "D") (byte "N") rs then byte "B"
    else if exactly (byte "E") (byte "Q") rs then byte "Z"
    else residue_x

-- if all plain codons give one residue that is the answer, else what the mix of residues gives; no codon of letters has none
abbrev pub agreed : List ℕ → ℕ
agreed [] = residue_x
agreed (r ∷ rs) = if all_are r rs then r else mixed (r ∷ rs)

-- the residue of three letter sets
unfoldable pub codon_rule : ℕ → ℕ → ℕ → ℕ → ℕ
codon_rule t a b c = agreed (residues t a b c)

-- the residue of three letters
unfoldable pub codon : ℕ → ℕ → ℕ → ℕ → ℕ
codon t a b c = codon_rule t (letter_set a) (letter_set b) (letter_set c)
