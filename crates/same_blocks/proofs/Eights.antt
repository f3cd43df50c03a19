-- Laws of a comparison that goes over two lists in eights, each read as one number. Assumes nothing.
use mathlib.Core.Path.{◌≡◌, refl, sym, ap, ap₂, ◌∙◌}
use mathlib.Core.Bool.{Bool, true, false, ◌&&◌}
use mathlib.Core.List.{List, [], ◌∷◌, ◌++◌}
use Prim.Native.Nat.{ℕ, zero, suc, ◌+◌, ◌*◌, ◌<◌, ◌≤◌}
use native.Mathlib.Omega.{arith}
use lib.Dec.{eqb}
use lib.ListN.{length, take, drop, get_or, length-drop}
use lib.Seq.{drop-cons, drop-drop, take-add, length-take-le}
use borrow.Author.Tests.{eq-eqb, ne_eqb, eqb-true, eqb-false}
use Rattle.rules.specs.Bytes.{same}
use Rattle.numbers.specs.Packed.{eight_at}
use Rattle.same_blocks.proofs.Blocks.{and_and}

-- two numbers with a lowest byte each are equal where both parts are
low_byte : (x y m n : ℕ) → x < 256 → y < 256 → eqb (x + m * 256) (y + n * 256) ≡ eqb x y && eqb m n
low_byte x y m n h k = at (eqb x y) (eqb m n) refl refl
  where
    at : (s t : Bool) → eqb x y ≡ s → eqb m n ≡ t → eqb (x + m * 256) (y + n * 256) ≡ s && t
    at true true e f = let p : x ≡ y = eqb-true x y e in let q : m ≡ n = eqb-true m n f in eq-eqb (x + m * 256) (y + n * 256) (omega arith)
    at true false e f = let p : x ≡ y = eqb-true x y e in ne_eqb (x + m * 256) (y + n * 256) (λ z. eqb-false m n f (omega arith))
    at false t e f = ne_eqb (x + m * 256) (y + n * 256) (λ z. eqb-false x y e (omega arith))

-- n bytes from place k on as one number, the first lowest
abbrev packed_at : ℕ → List ℕ → ℕ → ℕ
packed_at zero s k = 0
packed_at (suc n) s k = get_or s k 0 + packed_at n s (suc k) * 256

eight_packed : (s : List ℕ) (k : ℕ) → eight_at s k ≡ packed_at 8 s k
eight_packed s k =
    let k₁ : k + 1 ≡ suc k = omega arith in
    let k₂ : k + 2 ≡ suc (suc k) = omega arith in
    let k₃ : k + 3 ≡ suc (suc (suc k)) = omega arith in
    let k₄ : k + 4 ≡ suc (suc (suc (suc k))) = omega arith in
    let k₅ : k + 4 + 1 ≡ suc (suc (suc (suc (suc k)))) = omega arith in
    let k₆ : k + 4 + 2 ≡ suc (suc (suc (suc (suc (suc k))))) = omega arith in
    let k₇ : k + 4 + 3 ≡ suc (suc (suc (suc (suc (suc (suc k)))))) = omega arith in
    rw (k₇, k₆, k₅, k₄, k₃, k₂, k₁) (omega arith)

module _ (a b : List ℕ) (small : (k : ℕ) → get_or a k 0 < 256) (small' : (k : ℕ) → get_or b k 0 < 256) where
  packed-same : (n i : ℕ) → i + n ≤ length a → i + n ≤ length b → eqb (packed_at n a i) (packed_at n b i) ≡ same (take n (drop i a)) (take n (drop i b))
  unfolding same
  packed-same zero i h k = refl
  packed-same (suc n) i h k =
      let x = get_or a i 0 in
      let y = get_or b i 0 in
      let more = packed-same n (suc i) (omega arith) (omega arith) in
      rw (drop-cons a i 0 (omega arith), drop-cons b i 0 (omega arith)) (low_byte x y (packed_at n a (suc i)) (packed_at n b (suc i)) (small i) (small' i) ∙ ap (eqb x y &&◌) more)

  pub eight-same : (k : ℕ) → k + 8 ≤ length a → k + 8 ≤ length b → eqb (eight_at a k) (eight_at b k) ≡ same (take 8 (drop k a)) (take 8 (drop k b))
  eight-same k h g = ap₂ eqb (eight_packed a k) (eight_packed b k) ∙ packed-same 8 k h g

same_append : (p q r s : List ℕ) → length p ≡ length r → same (p ++ q) (r ++ s) ≡ same p r && same q s
unfolding same
same_append [] q [] s h = refl
same_append [] q (y ∷ r) s h = absurd (omega arith)
same_append (x ∷ p) q [] s h = absurd (omega arith)
same_append (x ∷ p) q (y ∷ r) s h = ap (eqb x y &&◌) (same_append p q r s (omega arith)) ∙ sym (and_and (eqb x y) (same p r) (same q s))

-- a loop that keeps what it found of the bytes from place k on, n more a turn
pub same_more : (a b : List ℕ) (k m n : ℕ) {good one : Bool} → k + m + n ≤ length a → k + m + n ≤ length b → good ≡ same (take m (drop k a)) (take m (drop k b)) → one ≡ same (take n (drop (k + m) a)) (take n (drop (k + m) b)) → good && one ≡ same (take (m + n) (drop k a)) (take (m + n) (drop k b))
same_more a b k m n h g e f =
    let long : length (take m (drop k a)) ≡ length (take m (drop k b)) =
    length-take-le m (drop k a) (simp length-drop (omega arith)) ∙ sym (length-take-le m (drop k b) (simp length-drop (omega arith))) in
    rw (take-add m n (drop k a), take-add m n (drop k b), drop-drop m k a, drop-drop m k b)
    (ap₂ ◌&&◌ e f ∙ sym (same_append _ _ _ _ long))
