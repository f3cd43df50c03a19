-- Laws of a walk over bases, by the places of their codons. Assumes nothing.
use mathlib.Core.Path.{◌≡◌}
use mathlib.Core.Bool.{true}
use mathlib.Core.List.{List, [], map}
use Prim.Native.Nat.{ℕ, ◌+◌, ◌/◌, ◌≤◌, ◌<◌}
use native.Mathlib.Omega.{arith}
use lib.ListN.{length, get_or, set}
use Rattle.rules.specs.Bytes.{byte}
use Rattle.rules.specs.Letters.{folded}
use Rattle.rules.specs.Translation.{excepted, residue_count}
use Rattle.codons.specs.Tables.{HoldsPlain}
use Rattle.places.specs.Places.{codon_at, place_at, fold_to_bases}
use Rattle.walks.specs.Walks.{residue_at, WalkedTo}
use Rattle.places.proofs.Places.{place_read}
use Rattle.walks.proofs.Walks.{Walk, walk_more, walk-stop}

-- without exceptions a codon has the table's residue
pub plain-reads : (t : ℕ) (s : List ℕ) (i v : ℕ) → v ≡ codon_at t (map folded s) i → v ≡ residue_at t [] s i
unfolding excepted residue_at
plain-reads t s i v is = is

module _ (t : ℕ) (code s : List ℕ) (holds : HoldsPlain t code) (bases : fold_to_bases s ≡ true) where
  -- the residue at a codon's place
  pub place-reads : (i p : ℕ) → i < length s / 3 → p ≡ place_at s i → get_or code p 0 ≡ residue_at t [] s i
  unfolding excepted residue_at
  place-reads i p h is = place_read t code s i p holds is bases h

  module _ (A old : List ℕ) (room : residue_count (length s) ≤ length old) (out : List ℕ) (i p : ℕ) (w : Walk t [] s A old out i) (h : i < length s / 3) (is : p ≡ place_at s i) where
    pub fits : i < length out
    unfolding residue_count
    fits = omega (arith, w.same)

    -- a residue that is no `*`, and the first `*`
    pub place-more : (get_or code p 0 ≡ byte "*" → ⊥) → Walk t [] s A old (set out i (get_or code p 0)) (i + 1)
    place-more n = walk_more t [] s A old out i (get_or code p 0) w h fits (place-reads i p h is) n

    pub place-stop : get_or code p 0 ≡ byte "*" → WalkedTo A (length s) old (set out i (get_or code p 0)) i
    place-stop z = walk-stop t [] s A old out i (get_or code p 0) w h fits (place-reads i p h is) z
