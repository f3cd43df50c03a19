-- Exceptions put over residues, and the next codon that has one. Assumes nothing: these are definitions.
use Rattle.std.specs.Prelude.{ℕ, suc, ◌<◌, ◌≡◌, ◌&&◌, List, [], ◌∷◌, leb, ltb, if◌then◌else◌}
use Rattle.rules.specs.declared.Exception.{Exception}
use Rattle.rules.specs.Translation.{excepted}

-- residues with the exceptions, the first of them codon n's
unfoldable pub excepted_from : List Exception → ℕ → List ℕ → List ℕ
excepted_from es n [] = []
excepted_from es n (r ∷ rs) = excepted es n r ∷ excepted_from es (suc n) rs

-- the number of an exception's codon, where it is from n on and below the nearest so far
unfoldable pub nearer : Exception → ℕ → ℕ → ℕ
nearer x n next = if leb n x.codon && ltb x.codon next then x.codon else next

-- the least number from n on, and below `past`, of a codon with an exception; with none, `past`
unfoldable pub next_from : List Exception → ℕ → ℕ → ℕ
next_from [] n past = past
next_from (x ∷ es) n past = next_from es n (nearer x n past)

-- `next` is the number of the first codon behind the first i that has an exception, or behind all
pub record Clear (es : List Exception) (i next : ℕ) : Type 0 where
  pub ahead : i < next
  pub none : (m r : ℕ) → i < m → m < next → excepted es m r ≡ r
