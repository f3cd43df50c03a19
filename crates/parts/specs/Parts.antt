-- Letters that stand in three parts, one behind the other.
use Rattle.std.specs.Prelude.{ℕ, ◌*◌, ◌<◌, ◌≤◌, ◌≡◌, List, ◌++◌, length, get_or}
use Rattle.rules.specs.Bytes.{byte}
use Rattle.rules.specs.Reference.{Reference, codons, reference_protein}
use Rattle.places.specs.Places.{codon_at}

abbrev pub in_parts : List ℕ → List ℕ → List ℕ → List ℕ
in_parts a b c = a ++ (b ++ c)

-- the first r codons are whole, and none reads `*` by the table
pub record Stopless (t : ℕ) (s : List ℕ) (r : ℕ) : Type 0 where
  pub within : r * 3 ≤ length s
  pub none : (i : ℕ) → i < r → codon_at t s i ≡ byte "*" → ⊥

-- of the residues of the whole CDS codons, those from codon k on and before codon r are no `*`
pub record Passes (x : Reference) (k r : ℕ) : Type 0 where
  pub from : k ≤ r
  pub within : r ≤ codons x
  pub none : (i : ℕ) → k ≤ i → i < r → get_or (reference_protein x) i 0 ≡ byte "*" → ⊥
