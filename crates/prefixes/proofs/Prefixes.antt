-- Laws of a comparison that goes over two lists in blocks. Assumes nothing.
use mathlib.Core.Path.{◌≡◌, sym, ap, ap₂, ◌∙◌}
use mathlib.Core.Bool.{true, false}
use mathlib.Core.List.{List, ◌++◌}
use Prim.Native.Nat.{ℕ, ◌+◌, ◌<◌, ◌≤◌, min}
use native.Mathlib.Omega.{arith}
use lib.ListN.{length, take, drop, take-append-drop, length-drop}
use lib.Seq.{drop-drop, length-take-le}
use Rattle.rules.specs.Bytes.{same}
use Rattle.rules.specs.Trims.{common_prefix}
use Rattle.rules.proofs.Trims.{cp_le_l, cp_le_r, cp_append, cp_take, same_self}
use Rattle.same_blocks.proofs.Blocks.{same_true}

-- k equal bytes from place i on
pub first_part : (a b : List ℕ) (i k : ℕ) → i + k ≤ length a → i + k ≤ length b → same (take k (drop i a)) (take k (drop i b)) ≡ true → common_prefix (drop i a) (drop i b) ≡ k + common_prefix (drop (i + k) a) (drop (i + k) b)
first_part a b i k ha hb e =
    let p = take k (drop i a) in
    let long : length p ≡ k = length-take-le k (drop i a) (simp length-drop (omega arith)) in
    let left : drop i a ≡ p ++ drop (i + k) a = sym (take-append-drop k (drop i a)) ∙ rw (drop-drop k i a) in
    let right : drop i b ≡ p ++ drop (i + k) b = sym (take-append-drop k (drop i b)) ∙ rw (drop-drop k i b, ← same_true p (take k (drop i b)) e) in
    ap₂ common_prefix left right ∙ cp_append p (drop (i + k) a) (drop (i + k) b) ∙ ap (◌+ common_prefix (drop (i + k) a) (drop (i + k) b)) long

-- fewer than n are equal where the first n differ
pub differ_in : (n : ℕ) (a b : List ℕ) → same (take n a) (take n b) ≡ false → common_prefix a b < n
differ_in n a b e = not-le n (common_prefix a b) (λ h. never (sym e ∙ ap (same (take n a)) (sym (cp_take n a b h)) ∙ same_self (take n a)))
  where
    never : false ≡ true → ⊥
    never f = let z : ◌≡◌ {A = ℕ} 0 1 = cc in omega arith

    not-le : (m p : ℕ) → (m ≤ p → ⊥) → p < m
    not-le m p f = omega arith

-- or where fewer than n are left
pub few_left : (a b : List ℕ) (i n : ℕ) → i ≤ min (length a) (length b) → min (length a) (length b) < i + n → common_prefix (drop i a) (drop i b) < n
few_left a b i n g h = omega (arith, cp_le_l (drop i a) (drop i b), cp_le_r (drop i a) (drop i b), length-drop i a, length-drop i b)
