-- Laws of the common beginning and the common ending of two lists.
-- Assumes nothing.
use Rattle.std.specs.Prelude.{if◌then◌else◌}
use mathlib.Core.Path.{◌≡◌, refl, sym, ap, ◌∙◌}
use mathlib.Core.Bool.{Bool, true, false, ◌&&◌, and_self}
use mathlib.Core.List.{List, [], ◌∷◌, ◌++◌, reverse, reverse-append, reverse-reverse}
use Prim.Native.Nat.{ℕ, zero, suc, ◌+◌, ◌-◌, ◌≤◌, ◌<◌, zero-le, suc-le-suc}
use native.Mathlib.Nat.{suc-add, sub-zero, zero-add}
use native.Mathlib.Omega.{arith}
use lib.Dec.{eqb, eqb-zero-suc, eqb-suc-suc}
use lib.ListN.{length, take, drop, get_or, length-drop, length-reverse, take-append-drop}
use lib.Seq.{take-length, take-suc, drop-cons, take_at}
use borrow.Author.Tests.{eq-eqb, ne_eqb, eqb-true, eqb-false}
use Rattle.rules.specs.Bytes.{same}
use Rattle.rules.specs.Trims.{common_prefix, common_suffix}
use Rattle.rules.proofs.Tests.{and_left, and_right}

cp_same : (x y : ℕ) (a b : List ℕ) → x ≡ y → common_prefix (x ∷ a) (y ∷ b) ≡ suc (common_prefix a b)
unfolding common_prefix
cp_same x y a b e = rw (eq-eqb x y e)

cp_differ : (x y : ℕ) (a b : List ℕ) → (x ≡ y → ⊥) → common_prefix (x ∷ a) (y ∷ b) ≡ zero
unfolding common_prefix
cp_differ x y a b e = rw (ne_eqb x y e)

cp_nil_l : (b : List ℕ) → common_prefix [] b ≡ zero
unfolding common_prefix
cp_nil_l b = refl

cp_nil_r : (a : List ℕ) → common_prefix a [] ≡ zero
unfolding common_prefix
cp_nil_r [] = refl
cp_nil_r (x ∷ a) = refl

-- it is at most either's length, and so much of them is equal
pub cp_le_l : (a b : List ℕ) → common_prefix a b ≤ length a
unfolding common_prefix
cp_le_l [] b = zero-le
cp_le_l (x ∷ a) [] = zero-le
cp_le_l (x ∷ a) (y ∷ b) = at (eqb x y) (cp_le_l a b)
  where
    at : (t : Bool) → common_prefix a b ≤ length a → (if t then suc (common_prefix a b) else 0) ≤ suc (length a)
    at true k = suc-le-suc k
    at false k = zero-le

pub cp_le_r : (a b : List ℕ) → common_prefix a b ≤ length b
unfolding common_prefix
cp_le_r [] b = zero-le
cp_le_r (x ∷ a) [] = zero-le
cp_le_r (x ∷ a) (y ∷ b) = at (eqb x y) (cp_le_r a b)
  where
    at : (t : Bool) → common_prefix a b ≤ length b → (if t then suc (common_prefix a b) else 0) ≤ suc (length b)
    at true k = suc-le-suc k
    at false k = zero-le

pub cp_take : (n : ℕ) (a b : List ℕ) → n ≤ common_prefix a b → take n a ≡ take n b
unfolding common_prefix
cp_take zero a b h = refl
cp_take (suc n) [] b h = absurd (omega arith)
cp_take (suc n) (x ∷ a) [] h = absurd (omega arith)
cp_take (suc n) (x ∷ a) (y ∷ b) h = at (eqb x y) refl h (cp_take n a b)
  where
    at : (t : Bool) → eqb x y ≡ t → suc n ≤ (if t then suc (common_prefix a b) else 0) → (n ≤ common_prefix a b → take n a ≡ take n b) → x ∷ take n a ≡ y ∷ take n b
    at true e k r = let p : take n a ≡ take n b = r (omega arith) in let q : x ≡ y = eqb-true x y e in cc
    at false e k r = absurd (omega arith)

-- none is longer: a shared beginning p counts whole
pub cp_append : (p a b : List ℕ) → common_prefix (p ++ a) (p ++ b) ≡ length p + common_prefix a b
cp_append [] a b = omega arith
cp_append (x ∷ p) a b = cp_same x x (p ++ a) (p ++ b) refl ∙ ap suc (cp_append p a b) ∙ sym (suc-add (length p) (common_prefix a b))

-- two lists are the same where their common beginning is the whole of each
pub same_whole : (a b : List ℕ) → same a b ≡ (eqb (common_prefix a b) (length a) && eqb (common_prefix a b) (length b))
unfolding same
same_whole [] [] = rw (cp_nil_l [])
same_whole [] (y ∷ b) = rw (cp_nil_l (y ∷ b), eqb-zero-suc (length b))
same_whole (x ∷ a) [] = rw (cp_nil_r (x ∷ a), eqb-zero-suc (length a))
same_whole (x ∷ a) (y ∷ b) = at (eqb x y) refl (same_whole a b)
  where
    at : (t : Bool) → eqb x y ≡ t → same a b ≡ (eqb (common_prefix a b) (length a) && eqb (common_prefix a b) (length b)) → (t && same a b) ≡ (eqb (common_prefix (x ∷ a) (y ∷ b)) (suc (length a)) && eqb (common_prefix (x ∷ a) (y ∷ b)) (suc (length b)))
    at true e k = rw (cp_same x y a b (eqb-true x y e), eqb-suc-suc (common_prefix a b) (length a), eqb-suc-suc (common_prefix a b) (length b)) k
    at false e k = rw (cp_differ x y a b (eqb-false x y e), eqb-zero-suc (length a))

-- so that their lengths are equal
pub same_lengths : (a b : List ℕ) → (length a ≡ length b → ⊥) → same a b ≡ false
same_lengths a b h = same_whole a b ∙ at (eqb (common_prefix a b) (length a)) refl
  where
    at : (t : Bool) → eqb (common_prefix a b) (length a) ≡ t → (t && eqb (common_prefix a b) (length b)) ≡ false
    at true e = ne_eqb _ _ (λ q. h (sym (eqb-true _ _ e) ∙ q))
    at false e = refl

pub same_equal : (a b : List ℕ) → length a ≡ length b → same a b ≡ eqb (common_prefix a b) (length a)
same_equal a b h = same_whole a b ∙ rw (← h, and_self)

-- where both are equal throughout, they are the same; lists that aren't, are not
pub same_self : (a : List ℕ) → same a a ≡ true
unfolding same
same_self [] = refl
same_self (x ∷ a) = rw (eq-eqb x x refl) (same_self a)

pub same-is : (a b : List ℕ) → same a b ≡ true → a ≡ b
unfolding same
same-is [] [] h = refl
same-is [] (y ∷ b) h = cc
same-is (x ∷ a) [] h = cc
same-is (x ∷ a) (y ∷ b) h =
    let first : x ≡ y = eqb-true x y (and_left (eqb x y) (same a b) h) in
    let others : a ≡ b = same-is a b (and_right (eqb x y) (same a b) h) in
    cc

pub not_same : (a b : List ℕ) → same a b ≡ false → length a ≡ common_prefix a b → length b ≡ common_prefix a b → ⊥
not_same a b h k l = let z : ◌≡◌ {A = ℕ} 0 1 = cc (same_whole a b, eq-eqb (common_prefix a b) (length a) (sym k), eq-eqb (common_prefix a b) (length b) (sym l)) in omega arith

-- the next elements differ
pub cp_next : (a b : List ℕ) → common_prefix a b < length a → common_prefix a b < length b → get_or a (common_prefix a b) 0 ≡ get_or b (common_prefix a b) 0 → ⊥
unfolding common_prefix
cp_next [] b h k e = omega arith
cp_next (x ∷ a) [] h k e = omega arith
cp_next (x ∷ a) (y ∷ b) h k e = at (eqb x y) refl h k e (cp_next a b)
  where
    at : (t : Bool) → eqb x y ≡ t → (if t then suc (common_prefix a b) else 0) < suc (length a) → (if t then suc (common_prefix a b) else 0) < suc (length b)
        → get_or (x ∷ a) (if t then suc (common_prefix a b) else 0) 0 ≡ get_or (y ∷ b) (if t then suc (common_prefix a b) else 0) 0
        → (common_prefix a b < length a → common_prefix a b < length b → get_or a (common_prefix a b) 0 ≡ get_or b (common_prefix a b) 0 → ⊥) → ⊥
    at true q h k e r = r (omega arith) (omega arith) e
    at false q h k e r = eqb-false x y q e

-- one step of a loop that goes from the front
module _ (a b : List ℕ) (i : ℕ) where
  pub cp-more : i < length a → i < length b → get_or a i 0 ≡ get_or b i 0 → common_prefix (drop i a) (drop i b) ≡ suc (common_prefix (drop (suc i) a) (drop (suc i) b))
  cp-more h k e = rw (drop-cons a i 0 h, drop-cons b i 0 k) (cp_same _ _ _ _ e)

  pub cp-stop : i < length a → i < length b → (get_or a i 0 ≡ get_or b i 0 → ⊥) → common_prefix (drop i a) (drop i b) ≡ zero
  cp-stop h k e = rw (drop-cons a i 0 h, drop-cons b i 0 k) (cp_differ _ _ _ _ e)

-- one step of a loop that goes from the end
reverse-take : (a : List ℕ) (m : ℕ) → m < length a → reverse (take (suc m) a) ≡ get_or a m 0 ∷ reverse (take m a)
reverse-take a m h = rw (take-suc a m 0 h, reverse-append)

module _ (a b : List ℕ) (m n : ℕ) (h : m < length a) (k : n < length b) where
  cs-more : get_or a m 0 ≡ get_or b n 0 → common_suffix (take (suc m) a) (take (suc n) b) ≡ suc (common_suffix (take m a) (take n b))
  unfolding common_suffix
  cs-more e = rw (reverse-take a m h, reverse-take b n k) (cp_same _ _ _ _ e)

  cs-stop : (get_or a m 0 ≡ get_or b n 0 → ⊥) → common_suffix (take (suc m) a) (take (suc n) b) ≡ zero
  unfolding common_suffix
  cs-stop e = rw (reverse-take a m h, reverse-take b n k) (cp_differ _ _ _ _ e)

-- the same, with the elements counted from the end
pub cs_none : (a b : List ℕ) → common_suffix a b ≡ 0 + common_suffix (take (length a - 0) a) (take (length b - 0) b)
cs_none a b = simp (sub-zero, zero-add, take-length)

down : (n i : ℕ) → i < n → n - i ≡ suc (n - 1 - i)
down n i h = omega arith

down_one : (n i : ℕ) → n - (i + 1) ≡ n - 1 - i
down_one n i = omega arith

below : (n i : ℕ) → i < n → n - 1 - i < n
below n i h = omega arith

module _ (a b : List ℕ) (i : ℕ) (h : i < length a) (k : i < length b) where
  pub cs-more-at : get_or a (length a - 1 - i) 0 ≡ get_or b (length b - 1 - i) 0 → common_suffix (take (length a - i) a) (take (length b - i) b) ≡ suc (common_suffix (take (length a - (i + 1)) a) (take (length b - (i + 1)) b))
  cs-more-at e =
      rw (down (length a) i h, down (length b) i k, down_one (length a) i, down_one (length b) i)
      (cs-more a b (length a - 1 - i) (length b - 1 - i) (below (length a) i h) (below (length b) i k) e)

  pub cs-stop-at : (get_or a (length a - 1 - i) 0 ≡ get_or b (length b - 1 - i) 0 → ⊥) → common_suffix (take (length a - i) a) (take (length b - i) b) ≡ zero
  cs-stop-at e =
      rw (down (length a) i h, down (length b) i k)
      (cs-stop a b (length a - 1 - i) (length b - 1 - i) (below (length a) i h) (below (length b) i k) e)

-- the shared ending is at most either's length, and so much of them is equal
pub cs_le_l : (a b : List ℕ) → common_suffix a b ≤ length a
unfolding common_suffix
cs_le_l a b = omega (arith, cp_le_l (reverse a) (reverse b), length-reverse a)

pub cs_le_r : (a b : List ℕ) → common_suffix a b ≤ length b
unfolding common_suffix
cs_le_r a b = omega (arith, cp_le_r (reverse a) (reverse b), length-reverse b)

take-reverse : (n : ℕ) (a : List ℕ) → n ≤ length a → take n (reverse a) ≡ reverse (drop (length a - n) a)
take-reverse n a h =
    let m = length a - n in
    let split : reverse a ≡ reverse (drop m a) ++ reverse (take m a) = ap reverse (sym (take-append-drop m a)) ∙ reverse-append (take m a) (drop m a) in
    let long : length (reverse (drop m a)) ≡ n = simp (length-reverse, length-drop) (omega arith) in
    rw split (take_at (reverse (drop m a)) (reverse (take m a)) n long)

pub cs_drop : (n : ℕ) (a b : List ℕ) → n ≤ common_suffix a b → drop (length a - n) a ≡ drop (length b - n) b
unfolding common_suffix
cs_drop n a b h =
    let ha : n ≤ length a = omega (arith, cs_le_l a b) in
    let hb : n ≤ length b = omega (arith, cs_le_r a b) in
    let e : reverse (drop (length a - n) a) ≡ reverse (drop (length b - n) b) = sym (take-reverse n a ha) ∙ cp_take n (reverse a) (reverse b) h ∙ take-reverse n b hb in
    sym (reverse-reverse (drop (length a - n) a)) ∙ ap reverse e ∙ reverse-reverse (drop (length b - n) b)

-- none is longer: a shared ending p counts whole
pub cs_append : (p a b : List ℕ) → common_suffix (a ++ p) (b ++ p) ≡ length p + common_suffix a b
unfolding common_suffix
cs_append p a b = simp (reverse-append, cp_append, length-reverse)
