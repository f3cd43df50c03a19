-- A codon read one letter at a time: what the plain codon reader gives for the letters that are left. Assumes nothing: these are definitions.
use Rattle.std.specs.Prelude.{ℕ, zero, suc, ◌+◌, ◌-◌, ◌*◌, List, [], ◌∷◌, get_or}
use Rattle.rules.specs.Codons.{residue_x, genetic_code, bases_of, for_each}
use Rattle.mixes.specs.Mixes.{joined}

-- how many plain codons so many letters make
abbrev pub codon_count : ℕ → ℕ
codon_count zero = 1
codon_count (suc n) = codon_count n * 4

-- the residues of a codon whose last letters, so many as are left, are expanded behind the bases that make the place
unfoldable pub expanded : ℕ → ℕ → List ℕ → ℕ → List ℕ
expanded zero t sets place = get_or (genetic_code t) place residue_x ∷ []
expanded (suc n) t sets place = for_each (bases_of (get_or sets (2 - n) 0)) λ i. expanded n t sets (place * 4 + i)

-- a row of residues beside what was found so far
unfoldable pub joined_all : ℕ → List ℕ → ℕ
joined_all found [] = found
joined_all found (x ∷ xs) = joined_all (joined found x) xs
