-- What becomes of an exception, and what is known where exceptions move.
use Rattle.std.specs.Prelude.{ℕ, ◌+◌, ◌-◌, ◌/◌, ◌≤◌, ◌<◌, ◌≡◌, true, List, [], ◌∷◌, length, Option, Some, None}
use Rattle.rules.specs.declared.Exception.{Exception}
use Rattle.rules.specs.declared.Exceptions.{Exceptions}
use Rattle.rules.specs.Translation.{exception_list}
use Rattle.rules.specs.Trims.{common_prefix}
use Rattle.rules.specs.Reference.{are_rising}
use Rattle.rules.specs.Exceptions.{suffix_behind}

-- what is left of one: itself, moved or not, or nothing
abbrev pub left_of : Option Exception → List Exception
left_of (Some e) = e ∷ []
left_of None = []

-- the edit leaves the letters before the CDS, and sums of lengths fit
pub record Moves (first : ℕ) (old new : List ℕ) : Type 0 where
  pub front : first ≤ common_prefix old new
  pub old-short : length old < 4294967296
  pub new-short : length new < 4294967296

-- at most sixteen, strictly rising within the codons that so many bases have behind `first`
pub record Rises (first size : ℕ) (e : Exceptions) : Type 0 where
  pub few : e.count ≤ 16
  pub rising : are_rising 0 ((size - first) / 3) (exception_list e) ≡ true

-- those of the old transcript
abbrev pub Given : ℕ → List ℕ → Exceptions → Type 0
Given first old e = Rises first (length old) e

-- the letters before the CDS are in the prefix, and the suffix is behind it in transcripts of two lengths, whose sums fit
pub record Lengths (first prefix suffix size made : ℕ) : Type 0 where
  pub front : first ≤ prefix
  pub old-holds : prefix + suffix ≤ size
  pub new-holds : prefix + suffix ≤ made
  pub old-short : size < 4294967296
  pub new-short : made < 4294967296

-- transcripts of two lengths share so long a prefix, and so long a suffix behind it
pub record Shared (prefix suffix size made : ℕ) (old new : List ℕ) : Type 0 where
  pub front : prefix ≡ common_prefix old new
  pub back : suffix ≡ suffix_behind prefix old new
  pub old-size : length old ≡ size
  pub new-size : length new ≡ made
