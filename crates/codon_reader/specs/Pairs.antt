-- A codon read by its first two letters: what the reader of few letters gives for two bases, and for a mixed pair. Assumes nothing: these are
-- definitions.
use Rattle.std.specs.Prelude.{ℕ, ◌/◌, ◌%◌, Bool, ◌&&◌, ◌||◌, eqb, if◌then◌else◌}
use Rattle.rules.specs.Codons.{residue_x, codon_rule}
use Rattle.letters.specs.Sets.{base_set}
use Rattle.mixes.specs.Mixes.{joined}

-- a set of one base
abbrev pub is_base_set : ℕ → Bool
is_base_set s = ((eqb s 1 || eqb s 2) || eqb s 4) || eqb s 8

-- of the residues with A, C, T and G as the third base: that of the first base of a set, in the order A, C, G, T
abbrev pub first_residue : ℕ → ℕ → ℕ → ℕ → ℕ → ℕ
first_residue a c t g s =
    if eqb (s % 2) 1 then a
    else if eqb (s / 2 % 2) 1 then c
    else if eqb (s / 4 % 2) 1 then g
    else t

-- those of the set's other bases are the same
abbrev pub are_all : ℕ → ℕ → ℕ → ℕ → ℕ → Bool
are_all r c t g s = ((eqb (s / 2 % 2) 0 || eqb c r) && (eqb (s / 4 % 2) 0 || eqb g r)) && (eqb (s / 8 % 2) 0 || eqb t r)

-- the one residue that all bases of the set give, else X
abbrev pub agreed_on : ℕ → ℕ → ℕ → ℕ → ℕ → ℕ
agreed_on a c t g s = if are_all (first_residue a c t g s) c t g s then first_residue a c t g s else residue_x

-- the residue of two bases, by the numbers of their letters, and a third letter's set
unfoldable pub pair_rule : ℕ → ℕ → ℕ → ℕ
pair_rule t pair c = codon_rule t (base_set (pair / 4)) (base_set (pair % 4)) c

-- the two pairs of bases, sixteen times the first one's number and the second's, of the pairs of sets RA, SA, TR, YT, MG; 0 of any other
abbrev pub two_pairs : ℕ → ℕ
two_pairs sets =
    if eqb sets 0x51 then 0x0c
    else if eqb sets 0x61 then 0x4c
    else if eqb sets 0x85 then 0x8b
    else if eqb sets 0xa8 then 0x6a
    else if eqb sets 0x34 then 0x37
    else 0

-- what two pairs of bases give together, and X where there are none
unfoldable pub mixed_rule : ℕ → ℕ → ℕ → ℕ
mixed_rule t sets c =
    if eqb (two_pairs sets) 0 then residue_x
    else joined (pair_rule t (two_pairs sets / 16) c) (pair_rule t (two_pairs sets % 16) c)
