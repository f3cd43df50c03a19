-- Laws of `all` and `each` for loops that go from the front: what is left of the list tells of the whole.
-- Assumes nothing.
use mathlib.Core.Path.{◌≡◌, refl, sym}
use mathlib.Core.Bool.{Bool, true, false, ◌&&◌, and-true, and-eq-true_iff}
use mathlib.Core.List.{List, [], ◌∷◌, ◌++◌, map}
use Prim.Native.Nat.{ℕ, zero, suc, ◌+◌, ◌*◌, ◌≤◌, ◌<◌}
use native.Mathlib.Numerals.{add-one}
use native.Mathlib.Omega.{arith}
use lib.ListN.{length, drop, get_or, drop_of_length-le, length-append}
use lib.Seq.{drop-cons}
use Rattle.rules.specs.Bytes.{all, each}

and_and : (a b c : Bool) → a && b && c ≡ a && (b && c)
and_and true b c = refl
and_and false b c = refl

module _ (p : ℕ → Bool) (s : List ℕ) (i : ℕ) where
  pub all_more : i < length s → p (get_or s i 0) ≡ true → all p (drop i s) ≡ all p (drop (i + 1) s)
  unfolding all
  all_more h e = rw (add-one, drop-cons s i 0 h, e)

  pub all-stop : i < length s → p (get_or s i 0) ≡ false → all p (drop i s) ≡ false
  unfolding all
  all-stop h e = rw (drop-cons s i 0 h, e)

  pub all_end : length s ≤ i → all p (drop i s) ≡ true
  unfolding all
  all_end h = rw (drop_of_length-le s {i = i} h)

  -- the same of a loop that keeps what it found, and doesn't end early
  pub all-and : (good one : Bool) → i < length s → one ≡ p (get_or s i 0) → good && one && all p (drop (i + 1) s) ≡ good && all p (drop i s)
  unfolding all
  all-and good one h e = rw (add-one, drop-cons s i 0 h, e) (and_and good (p (get_or s i 0)) (all p (drop (suc i) s)))

  pub all-and-end : (good : Bool) → length s ≤ i → good && all p (drop i s) ≡ good
  all-and-end good h = rw (all_end h) (and-true good)

module _ (f : ℕ → List ℕ) (s : List ℕ) (i : ℕ) where
  pub each_more : i < length s → each f (drop i s) ≡ f (get_or s i 0) ++ each f (drop (i + 1) s)
  unfolding each
  each_more h = rw (add-one, drop-cons s i 0 h)

  pub each-end : length s ≤ i → each f (drop i s) ≡ []
  unfolding each
  each-end h = rw (drop_of_length-le s {i = i} h)

pub all_append : {A : Type 0} (p : A → Bool) (s u : List A) → all p (s ++ u) ≡ all p s && all p u
unfolding all
all_append p [] u = refl
all_append p (x ∷ s) u = rw (all_append p s u) (sym (and_and (p x) (all p s) (all p u)))

pub all_map : {A B : Type 0} (p : B → Bool) (f : A → B) (s : List A) → all p (map f s) ≡ all (λ x. p (f x)) s
unfolding all
all_map p f [] = refl
all_map p f (x ∷ s) = rw (all_map p f s)

-- what all pass, each one passes
pub all_at : (p : ℕ → Bool) (s : List ℕ) (i : ℕ) → all p s ≡ true → i < length s → p (get_or s i 0) ≡ true
unfolding all
all_at p [] i e h = absurd (omega arith)
all_at p (x ∷ s) zero e h = ((and-eq-true_iff (p x) (all p s)).0 e).0
all_at p (x ∷ s) (suc i) e h = all_at p s i ((and-eq-true_iff (p x) (all p s)).0 e).1 (omega arith)

-- f gives m bytes for each element that passes
pub length-each : {A : Type 0} (p : A → Bool) (f : A → List ℕ) (m : ℕ) → ((x : A) → p x ≡ true → length (f x) ≡ m) → (s : List A) → all p s ≡ true → length (each f s) ≡ length s * m
unfolding all each
length-each p f m one [] e = omega arith
length-each p f m one (x ∷ s) e =
    let a : length (f x) ≡ m = one x ((and-eq-true_iff (p x) (all p s)).0 e).0 in
    let b : length (each f s) ≡ length s * m = length-each p f m one s ((and-eq-true_iff (p x) (all p s)).0 e).1 in
    rw length-append (omega arith)
