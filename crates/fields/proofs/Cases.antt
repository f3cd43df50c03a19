-- The cases of a field at a place of the bytes.
-- Assumes nothing.
use mathlib.Core.Path.{◌≡◌, refl}
use mathlib.Core.List.{List, [], ◌∷◌}
use Prim.Native.Nat.{ℕ, suc, ◌+◌, ◌-◌, ◌≤◌, ◌<◌}
use native.Mathlib.Numerals.{add-one}
use native.Mathlib.Omega.{arith}
use lib.ListN.{length, drop, get_or, length-drop, drop_of_length-le}
use lib.Seq.{drop-cons, length-take-le}
use borrow.Author.Tests.{le-leb, lt-leb}
use Rattle.rules.specs.Stored as stored
use Rattle.fields.specs.declared.reader.Field.TheVariants.{Whole, Cut, End}
use Rattle.fields.specs.Places.{placed, field_at}

pub none : (s : List ℕ) (at : ℕ) → length s ≤ at → End ≡ field_at s at
unfolding placed stored.field
none s at h = rw (drop_of_length-le s h)

few : (at t : ℕ) (s : List ℕ) → length s < 2 → Cut t ≡ placed at (stored.field (t ∷ s))
unfolding placed stored.field
few at t [] h = refl
few at t (x ∷ []) h = refl
few at t (x ∷ y ∷ s) h = absurd (omega arith)

pub short : (s : List ℕ) (at : ℕ) → at < length s → length s - at < 3 → Cut (get_or s at 0) ≡ field_at s at
short s at h k = rw (drop-cons s at 0 h) (few at (get_or s at 0) (drop (suc at) s) (omega (arith, length-drop (suc at) s)))

module _ (s : List ℕ) (at : ℕ) (h : at + 3 ≤ length s) (n : ℕ) (e : n ≡ stored.two_bytes (get_or s (at + 1) 0) (get_or s (at + 1 + 1) 0)) where
  three : drop at s ≡ get_or s at 0 ∷ get_or s (at + 1) 0 ∷ get_or s (at + 1 + 1) 0 ∷ drop (at + 3) s
  three =
      let one : at + 1 ≡ suc at = omega arith in
      let three : at + 3 ≡ suc (suc (suc at)) = omega arith in
      rw (one, add-one, three, drop-cons s at 0 (omega arith), drop-cons s (suc at) 0 (omega arith), drop-cons s (suc (suc at)) 0 (omega arith))

  pub whole : n ≤ length s - (at + 3) → Whole (get_or s at 0) (record { at = at + 3; len = n }) ≡ field_at s at
  unfolding placed stored.field
  whole k =
      let fits : n ≤ length (drop (at + 3) s) = rw length-drop k in
      rw (three, ← e, le-leb n (length (drop (at + 3) s)) fits, length-take-le n (drop (at + 3) s) fits)

  pub cut : length s - (at + 3) < n → Cut (get_or s at 0) ≡ field_at s at
  unfolding placed stored.field
  cut k = rw (three, ← e, lt-leb n (length (drop (at + 3) s)) (rw length-drop k))
