-- Laws of the letters of a list that a swap was carried out on: those before it, what is put in, those behind it.
-- Assumes nothing.
use mathlib.Core.Path.{◌≡◌, sym, ap, ◌∙◌}
use mathlib.Core.List.{List, [], ◌∷◌, ◌++◌}
use Prim.Native.Nat.{ℕ, zero, suc, ◌+◌, ◌-◌, ◌≤◌}
use native.Mathlib.Omega.{arith}
use lib.ListN.{length, take, drop, length-drop, take-append-drop}
use lib.Seq.{length-take-le, take-nil, take-append-le, take-append-add, drop-append-le, drop-append-add, drop-drop}
use Rattle.rules.specs.Altered.{part, Swap, carried}
use Rattle.rules.proofs.Parts.{length_part}

-- the letters before a swap, and those behind what it puts in
front_of : (first n from : ℕ) (s x : List ℕ) → first + n ≤ from → from ≤ length s → take n (drop first (take from s ++ x)) ≡ take n (drop first (take from s))
front_of first n from s x h k =
    let long : length (take from s) ≡ from = length-take-le from s k in
    ap (take n) (drop-append-le first (take from s) x (omega arith))
    ∙ take-append-le n (drop first (take from s)) x (omega (arith, length-drop first (take from s)))

module _ (w : Swap) (s : List ℕ) (inside : w.from ≤ length s) where
  pub carried-front : (first n : ℕ) → first + n ≤ w.from → take n (drop first (carried w s)) ≡ take n (drop first s)
  unfolding carried
  carried-front first n h =
      front_of first n w.from s (w.put ++ drop w.to s) h inside
      ∙ sym (front_of first n w.from s (drop w.from s) h inside)
      ∙ ap (λ (l : List ℕ). take n (drop first l)) (take-append-drop w.from s)

  pub carried-back : (i j : ℕ) → w.from + length w.put ≤ i → i + w.to ≡ j + (w.from + length w.put) → drop i (carried w s) ≡ drop j s
  unfolding carried
  carried-back i j h at =
      let n : ℕ = i - (w.from + length w.put) in
      let long : length (take w.from s) ≡ w.from = length-take-le w.from s inside in
      let place : i ≡ length (take w.from s) + (length w.put + n) = omega arith in
      let old : w.to + n ≡ j = omega arith in
      ap (λ (k : ℕ). drop k (take w.from s ++ (w.put ++ drop w.to s))) place
      ∙ drop-append-add (take w.from s) (w.put ++ drop w.to s) (length w.put + n)
      ∙ drop-append-add w.put (drop w.to s) n
      ∙ drop-drop n w.to s
      ∙ ap (λ (k : ℕ). drop k s) old

-- the letters from a place before a swap on: those of the list, what is put in, those of the list
drop-take : (a n : ℕ) (s : List ℕ) → drop a (take n s) ≡ take (n - a) (drop a s)
drop-take zero n s = let all : n ≡ n - 0 = omega arith in ap (λ (k : ℕ). take k s) all
drop-take (suc a) zero s = let none : 0 ≡ 0 - suc a = omega arith in ap (λ (k : ℕ). take k (drop (suc a) s)) none
drop-take (suc a) (suc n) [] = sym (take-nil (suc n - suc a))
drop-take (suc a) (suc n) (x ∷ s) = let same : n - a ≡ suc n - suc a = omega arith in drop-take a n s ∙ ap (λ (k : ℕ). take k (drop a s)) same

module _ (w : Swap) (s : List ℕ) (inside : w.from ≤ length s) (a : ℕ) (front : a ≤ w.from) where
  pub carried_from : drop a (carried w s) ≡ part a w.from s ++ (w.put ++ drop w.to s)
  unfolding carried part
  carried_from =
      let long : length (take w.from s) ≡ w.from = length-take-le w.from s inside in
      drop-append-le a (take w.from s) (w.put ++ drop w.to s) (omega arith)
      ∙ ap (λ (l : List ℕ). l ++ (w.put ++ drop w.to s)) (drop-take a w.from s)

  -- to a place behind it
  pub carried-part : (b c : ℕ) → w.to ≤ c → b + w.to ≡ c + (w.from + length w.put) → part a b (carried w s) ≡ part a w.from s ++ (w.put ++ part w.to c s)
  unfolding part
  carried-part b c h at =
      let X = part a w.from s in
      let k : ℕ = c - w.to in
      let long : length X ≡ w.from - a = length_part a w.from s inside in
      let many : b - a ≡ length X + (length w.put + k) = omega arith in
      ap (take (b - a)) carried_from
      ∙ ap (λ (n : ℕ). take n (X ++ (w.put ++ drop w.to s))) many
      ∙ take-append-add X (w.put ++ drop w.to s) (length w.put + k)
      ∙ ap (λ (l : List ℕ). X ++ l) (take-append-add w.put (drop w.to s) k)

-- a part of what stands behind the first letters
pub part_behind : (first a b : ℕ) (s : List ℕ) → part a b (drop first s) ≡ part (first + a) (first + b) s
unfolding part
part_behind first a b s =
    let many : first + b - (first + a) ≡ b - a = omega arith in
    rw (drop-drop a first s, many)
