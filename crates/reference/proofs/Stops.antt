-- Laws of counting a byte in a list, over a loop and over blocks.
-- Assumes nothing.
use Rattle.std.specs.Prelude.{if◌then◌else◌}
use Rattle.std.specs.Int.{from_bool}
use mathlib.Core.Path.{◌≡◌, refl, sym}
use mathlib.Core.Bool.{Bool, true, false}
use mathlib.Core.List.{List, [], ◌∷◌, ◌++◌}
use Prim.Native.Nat.{ℕ, suc, ◌+◌, ◌≤◌, ◌<◌, zero-le}
use native.Mathlib.Numerals.{add-one}
use native.Mathlib.Omega.{arith}
use borrow.Author.Tests.{eqb-true, eqb-false, eq-eqb, ne_eqb}
use lib.Dec.{eqb}
use lib.ListN.{length, drop, get_or, drop_of_length-le}
use lib.Seq.{drop-cons}
use Rattle.rules.specs.Bytes.{count}

pub count-append : (x : ℕ) (s t : List ℕ) → count x (s ++ t) ≡ count x s + count x t
unfolding count
count-append x [] t = omega arith
count-append x (y ∷ s) t = at (eqb x y) (count-append x s t)
  where
    at : (b : Bool) → count x (s ++ t) ≡ count x s + count x t
        → (if b then suc (count x (s ++ t)) else count x (s ++ t)) ≡ (if b then suc (count x s) else count x s) + count x t
    at true h = omega arith
    at false h = h

pub count_le : (x : ℕ) (s : List ℕ) → count x s ≤ length s
unfolding count
count_le x [] = zero-le
count_le x (y ∷ s) = at (eqb x y) (count_le x s)
  where
    at : (b : Bool) → count x s ≤ length s → (if b then suc (count x s) else count x s) ≤ suc (length s)
    at true h = omega arith
    at false h = omega arith

-- one byte, by the code's test
pub counted : (x y : ℕ) → from_bool (eqb y x) ≡ count x (y ∷ [])
unfolding count
counted x y = by (eqb y x) refl
  where
    by : (t : Bool) → eqb y x ≡ t → from_bool t ≡ (if eqb x y then 1 else 0)
    by true h = rw (eq-eqb x y (sym (eqb-true y x h)))
    by false h = rw (ne_eqb x y (λ z. eqb-false y x h (sym z)))

-- what is passed and what is left make the whole
module _ (x : ℕ) (s : List ℕ) (i : ℕ) where
  pub count_turn : i < length s → count x (get_or s i 0 ∷ []) + count x (drop (i + 1) s) ≡ count x (drop i s)
  count_turn h = rw (add-one, drop-cons s i 0 h) (sym (count-append x (get_or s i 0 ∷ []) (drop (suc i) s)))

  pub count-done : length s ≤ i → count x (drop i s) ≡ 0
  unfolding count
  count-done h = rw (drop_of_length-le s {i = i} h)
