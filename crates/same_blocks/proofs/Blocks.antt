-- Laws of a comparison of two blocks. Assumes nothing.
use mathlib.Core.Path.{◌≡◌, refl, sym, ap₂}
use mathlib.Core.Bool.{Bool, true, false, ◌&&◌, and-true, and-eq-true_iff, not}
use mathlib.Core.List.{List, [], ◌∷◌}
use Prim.Native.Nat.{ℕ, suc, ◌+◌, ◌<◌, ◌≤◌}
use native.Mathlib.Numerals.{add-one}
use native.Mathlib.Omega.{arith}
use lib.Dec.{eqb}
use lib.ListN.{length, drop, get_or, drop_of_length-le}
use lib.Seq.{drop-cons}
use borrow.Author.Tests.{eqb-true}
use Rattle.rules.specs.Bytes.{same}

pub and_and : (a b c : Bool) → a && b && c ≡ a && (b && c)
and_and true b c = refl
and_and false b c = refl

-- a loop that keeps what it found of two lists, and doesn't end early
module _ (a b : List ℕ) (i : ℕ) where
  pub same-and : (good one : Bool) → i < length a → i < length b → one ≡ eqb (get_or a i 0) (get_or b i 0) → good && one && same (drop (i + 1) a) (drop (i + 1) b) ≡ good && same (drop i a) (drop i b)
  unfolding same
  same-and good one h k e = rw (add-one, drop-cons a i 0 h, drop-cons b i 0 k, e) (and_and good (eqb (get_or a i 0) (get_or b i 0)) (same (drop (suc i) a) (drop (suc i) b)))

  pub same-and-end : (good : Bool) → length a ≤ i → length b ≤ i → good && same (drop i a) (drop i b) ≡ good
  unfolding same
  same-and-end good h k = rw (drop_of_length-le a {i = i} h, drop_of_length-le b {i = i} k) (and-true good)

pub was_true : (b : Bool) → not b ≡ false → b ≡ true
was_true true e = refl
was_true false e = sym e

pub was_false : (b : Bool) → not b ≡ true → b ≡ false
was_false true e = sym e
was_false false e = refl

pub same_true : (a b : List ℕ) → same a b ≡ true → a ≡ b
unfolding same
same_true [] [] e = refl
same_true [] (y ∷ b) e = absurd (never e)
  where
    never : false ≡ true → ⊥
    never f = let z : ◌≡◌ {A = ℕ} 0 1 = cc in omega arith
same_true (x ∷ a) [] e = absurd (never e)
  where
    never : false ≡ true → ⊥
    never f = let z : ◌≡◌ {A = ℕ} 0 1 = cc in omega arith
same_true (x ∷ a) (y ∷ b) e =
    let both = (and-eq-true_iff (eqb x y) (same a b)).0 e in
    ap₂ ◌∷◌ (eqb-true x y both.0) (same_true a b both.1)
