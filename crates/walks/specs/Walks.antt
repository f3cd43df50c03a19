-- What a walk to the first stop leaves. Assumes nothing: these are definitions.
use Rattle.std.specs.Prelude.{ℕ, ◌+◌, ◌/◌, ◌%◌, ◌<◌, ◌≤◌, min, ◌≡◌, List, map, length}
use Rattle.rules.specs.declared.Exception.{Exception}
use Rattle.rules.specs.Bytes.{over}
use Rattle.rules.specs.Letters.{folded}
use Rattle.rules.specs.Translation.{excepted, through_stop, folded_translated}
use Rattle.rules.proofs.Over.{over_from}
use Rattle.rules.proofs.Reading.{rest_of}
use Rattle.places.specs.Places.{codon_at}

-- the residue of codon i, exceptions applied, of letters of plain translation
unfoldable pub residue_at : ℕ → List Exception → List ℕ → ℕ → ℕ
residue_at t es s i = excepted es (i + 1) (codon_at t (map folded s) i)

-- what a walk calls reads the codons of letters, so many in all, by their numbers
pub record ReadsCodons (post : ℕ → ℕ → Type 0) (t : ℕ) (s : List ℕ) (whole : ℕ) : Type 0 where
  pub many : whole ≡ length s / 3
  pub each : (i r : ℕ) → i < whole → post i r → r ≡ codon_at t (map folded s) i

-- a walk over n bases that ended at the stop codon r has written the protein A; one that met none has still to write the X for a rest
pub record WalkedTo (A : List ℕ) (n : ℕ) (old out : List ℕ) (r : ℕ) : Type 0 where
  pub within : r ≤ n / 3
  pub stopped : r < n / 3 → (r + 1 ≡ length A) × (out ≡ over A old)
  pub ended : n / 3 ≤ r → ((n + 2) / 3 ≡ length A) × (over_from (n / 3) (rest_of (n % 3)) out ≡ over A old)

-- the whole codons of letters, up to and with the first stop: their residues, but for the X of a rest
unfoldable pub codons_walked : ℕ → List Exception → List ℕ → ℕ
codons_walked t es s = min (length (through_stop (folded_translated t es s))) (length s / 3)
