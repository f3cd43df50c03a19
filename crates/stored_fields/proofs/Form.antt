-- Laws of the reference's form: the lengths that fit its tags.
-- Assumes nothing.
use mathlib.Core.Path.{◌≡◌, refl, sym, ◌∙◌}
use mathlib.Core.Bool.{Bool, true, false}
use mathlib.Core.List.{List, [], ◌∷◌}
use mathlib.Core.Option.{none, some}
use Prim.Native.Nat.{ℕ, ◌%◌, ◌≤◌}
use native.Mathlib.Omega.{arith}
use lib.Dec.{eqb}
use lib.ListN.{length}
use borrow.Author.Tests.{leb-true, eqb-true, not-false}
use Rattle.rules.specs.declared.Part.{Part}
use Rattle.rules.specs.Stored.{bounds_in, reference_form}
use Rattle.stored_places.specs.Refusal.{is_there}
use Rattle.stored_fields.specs.Reading.{bounds_by}

module _ (s : List ℕ) where
  pub bounds-length : reference_form.fits 2 s ≡ true → length s ≡ 4
  unfolding reference_form
  bounds-length h = eqb-true (length s) 4 h

  pub wide-length : reference_form.fits 7 s ≡ true → length s ≡ 8
  unfolding reference_form
  wide-length h = eqb-true (length s) 8 h

  pub second-length : reference_form.fits 5 s ≡ true → 1 ≤ length s
  unfolding reference_form
  second-length h = leb-true 1 (length s) h

  pub third-length : reference_form.fits 6 s ≡ true → 1 ≤ length s
  unfolding reference_form
  third-length h = leb-true 1 (length s) h

  pub table-length : reference_form.fits 3 s ≡ true → length s ≡ 1
  unfolding reference_form
  table-length h = eqb-true (length s) 1 h

  pub exceptions-length : reference_form.fits 4 s ≡ true → length s % 3 ≡ 0
  unfolding reference_form
  exceptions-length h = eqb-true (length s % 3) 0 h

-- the bounds, by which of tags 2 and 7 has them
module _ (b w : List ℕ) where
  pub wide_bounds : length b ≡ 0 → bounds_by b w ≡ bounds_in none w
  wide_bounds h = by b h
    where
      by : (b : List ℕ) → length b ≡ 0 → bounds_by b w ≡ bounds_in none w
      by [] h = refl
      by (x ∷ b) h = absurd (omega arith)

  pub narrow-bounds : (length b ≡ 0 → ⊥) → bounds_by b w ≡ bounds_in (some b) w
  narrow-bounds h = by b h
    where
      by : (b : List ℕ) → (length b ≡ 0 → ⊥) → bounds_by b w ≡ bounds_in (some b) w
      by [] h = absurd (h refl)
      by (x ∷ b) h = refl

-- no bytes are there
pub not_there : (p : Part) (t : Bool) → t ≡ is_there p → t ≡ false → p.len ≡ 0
not_there p t is h = eqb-true p.len 0 (not-false (eqb p.len 0) (sym is ∙ h))
