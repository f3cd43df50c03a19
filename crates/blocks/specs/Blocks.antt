-- What is known of codons held to R in blocks.
use Rattle.std.specs.Prelude.{ℕ, ◌+◌, ◌*◌, ◌≤◌, ◌<◌, ◌≡◌, List, length, drop, get_or}
use Rattle.rules.specs.declared.Exception.{Exception}
use Rattle.rules.specs.Translation.{excepted}
use Rattle.places.specs.Places.{codon_at}
use Rattle.edits.specs.declared.plans.Plan.{Plan}

-- so many first residues are those of the first codons of s
pub record ReadsAs (t : ℕ) (s residues : List ℕ) (n : ℕ) : Type 0 where
  pub each : (i : ℕ) → i < n → get_or residues i 0 ≡ codon_at t s i

-- so many codons from a place on, at most `most`, lie in one stretch
pub record Sized (p : Plan) (at most n : ℕ) : Type 0 where
  pub few : n ≤ most
  pub behind : (n ≡ 0 → ⊥) → p.from ≤ at
  pub inside : at < p.from + p.kept → at + n * 3 ≤ p.from + p.kept

-- residues of a block's size that the reference's own codons read as, from a place on
pub record Held (t : ℕ) (letters : List ℕ) (at : ℕ) (own : List ℕ) : Type 0 where
  pub code : t < 3
  pub few : length own ≤ 256
  pub ends : at + length own * 3 ≤ length letters
  pub reads : ReadsAs t (drop at letters) own (length own)

-- the n codons behind the first k have no exception
pub record Unexcepted (es : List Exception) (k n : ℕ) : Type 0 where
  pub each : (i v : ℕ) → i < n → excepted es (k + i + 1) v ≡ v
