-- What the tables of residues hold. Assumes nothing: these are definitions.
use Rattle.std.specs.Prelude.{ℕ, ◌+◌, ◌*◌, ◌<◌, List, ◌≡◌, get_or}
use Rattle.rules.specs.Codons.{codon_rule}
use Rattle.letters.specs.Sets.{base_set}

-- the residue of each codon of three letter sets stands at its place
pub record HoldsCode (t : ℕ) (xs : List ℕ) : Type 0 where
  pub entry : (a b c : ℕ) → a < 16 → b < 16 → c < 16 → get_or xs (a * 256 + b * 16 + c) 0 ≡ codon_rule t a b c

-- the residue of each plain codon stands at its place, by the numbers of its letters
pub record HoldsPlain (t : ℕ) (xs : List ℕ) : Type 0 where
  pub entry : (a b c : ℕ) → a < 4 → b < 4 → c < 4 → get_or xs (a * 16 + b * 4 + c) 0 ≡ codon_rule t (base_set a) (base_set b) (base_set c)
