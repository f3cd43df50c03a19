-- Laws of tests of each byte of a string, by loops that go one at a time or in blocks, whatever the test. Assumes nothing.
use mathlib.Core.Path.{◌≡◌, refl, sym, ap, ◌∙◌}
use mathlib.Core.Bool.{Bool, true, false, ◌&&◌, not, and-true, and-false, and-eq-true_iff}
use mathlib.Core.List.{List, [], ◌∷◌}
use Prim.Native.Nat.{ℕ, ◌+◌, ◌-◌, ◌≤◌, ◌<◌}
use native.Mathlib.Omega.{arith}
use lib.ListN.{length, get_or, take, drop, take-append-drop, length-drop}
use lib.Seq.{drop-drop, take-add, take_all}
use borrow.Author.Tests.{not-true, not-false}
use Rattle.rules.specs.Bytes.{all}
use Rattle.rules.proofs.Lists.{all-and, all-and-end, all_append, all_end}

-- what all pass that pass another test
pub all_implied : (p q : ℕ → Bool) → ((x : ℕ) → p x ≡ true → q x ≡ true) → (s : List ℕ) → all p s ≡ true → all q s ≡ true
unfolding all
all_implied p q f [] e = refl
all_implied p q f (x ∷ s) e =
    let both = (and-eq-true_iff (p x) (all p s)).0 e in
    rw (f x both.0, all_implied p q f s both.1)

-- the bytes before i were tested, and all of them passed if `good`: what was found and what is left decide
pub record Tested (p : ℕ → Bool) (s : List ℕ) (good : Bool) (i : ℕ) : Type 0 where
  pub within : i ≤ length s
  pub decides : good && all p (drop i s) ≡ all p s

pub tested_none : (p : ℕ → Bool) (s : List ℕ) → Tested p s true 0
tested_none p s = record { within = omega arith; decides = refl }

pub tested_more : {p : ℕ → Bool} {s : List ℕ} {good : Bool} {i : ℕ} {one : Bool} → Tested p s good i → i < length s → one ≡ p (get_or s i 0) → Tested p s (good && one) (i + 1)
tested_more {p} {s} {good} {i} {one} t h e =
    record { within = omega arith; decides = all-and p s i good one h e ∙ t.decides }

pub tested_all : {p : ℕ → Bool} {s : List ℕ} {good : Bool} {i : ℕ} → Tested p s good i → length s ≤ i → good ≡ all p s
tested_all {p} {s} {good} {i} t h = sym (all-and-end p s i good h) ∙ t.decides

-- the blocks before i passed: what is left decides
pub record Passed (p : ℕ → Bool) (s : List ℕ) (i : ℕ) : Type 0 where
  pub within : i ≤ length s
  pub decides : all p (drop i s) ≡ all p s

pub passed_none : (p : ℕ → Bool) (s : List ℕ) → Passed p s 0
passed_none p s = record { within = omega arith; decides = refl }

module _ {p : ℕ → Bool} {s : List ℕ} {i : ℕ} (t : Passed p s i) where
  pub passed-all : length s ≤ i → true ≡ all p s
  passed-all h = sym (all_end p s i h) ∙ t.decides

  module _ (end : ℕ) {r : Bool} (h : i ≤ end) (is : r ≡ all p (take (end - i) (drop i s))) where
    block : all p (drop i s) ≡ r && all p (drop end s)
    block =
        let at : i + (end - i) ≡ end = omega arith in
        ap (all p) (sym (take-append-drop (end - i) (drop i s)))
        ∙ all_append p (take (end - i) (drop i s)) (drop (end - i) (drop i s))
        ∙ rw (drop-drop (end - i) i s, at, is)

    pub passed-more : end ≤ length s → not r ≡ false → Passed p s end
    passed-more k e = record { within = k; decides = sym (block ∙ rw (not-false r e)) ∙ t.decides }

    pub passed-not : not r ≡ true → false ≡ all p s
    passed-not e = sym (block ∙ rw (not-true r e)) ∙ t.decides

-- two parts that overlap decide together
twice : (a b c : Bool) → (a && b) && (b && c) ≡ a && (b && c)
twice true true c = refl
twice true false c = refl
twice false b c = refl

pub overlapped : (p : ℕ → Bool) (s : List ℕ) (m k : ℕ) → k ≤ m → all p (take m s) && all p (drop k s) ≡ all p s
overlapped p s m k h =
    let n : ℕ = m - k in
    let part = all_append p (take n (drop k s)) (drop n (drop k s)) in
    let to : k + n ≡ m = omega arith in
    let front : all p (take m s) ≡ all p (take k s) && all p (take n (drop k s)) = ap (λ (j : ℕ). all p (take j s)) (sym to) ∙ ap (all p) (take-add k n s) ∙ all_append p (take k s) (take n (drop k s)) in
    let back : all p (drop k s) ≡ all p (take n (drop k s)) && all p (drop n (drop k s)) = ap (all p) (sym (take-append-drop n (drop k s))) ∙ part in
    let whole : all p s ≡ all p (take k s) && all p (drop k s) = ap (all p) (sym (take-append-drop k s)) ∙ all_append p (take k s) (drop k s) in
    rw (front, whole, back) (twice (all p (take k s)) (all p (take n (drop k s))) (all p (drop n (drop k s))))

-- the rest from k on decides where it fails, and what stands before m where it passes
module _ (p : ℕ → Bool) (s : List ℕ) (m k : ℕ) (h : k ≤ m) {r : Bool} (is : r ≡ all p (take (length s - k) (drop k s))) where
  rest : all p (drop k s) ≡ r
  rest = sym (is ∙ ap (all p) (take_all (length s - k) (drop k s) (simp length-drop (omega arith))))

  pub both-parts : {q : Bool} → q ≡ all p (take m s) → q && r ≡ all p s
  both-parts {q} e = rw e (ap (λ (x : Bool). all p (take m s) && x) (sym rest) ∙ overlapped p s m k h)

  pub front-decides : {q : Bool} → q ≡ all p (take m s) → not r ≡ false → q ≡ all p s
  front-decides {q} e n = sym (and-true q) ∙ ap (λ (x : Bool). q && x) (sym (not-false r n)) ∙ both-parts e

  pub rest-fails : not r ≡ true → false ≡ all p s
  rest-fails n = sym (and-false (all p (take m s))) ∙ ap (λ (x : Bool). all p (take m s) && x) (sym (not-true r n)) ∙ both-parts refl
