-- Laws of the table of names, and of the names that it gives.
-- Assumes nothing.
use Rattle.std.specs.Prelude.{if◌then◌else◌}
use mathlib.Core.Path.{◌≡◌, refl, sym, ap, ◌∙◌}
use mathlib.Core.Bool.{Bool, true, false, ◌&&◌, not, and-true, and-eq-true_iff, false≢true}
use mathlib.Core.List.{List, [], ◌∷◌, ◌++◌}
use Prim.Native.Nat.{ℕ, suc, ◌+◌, ◌*◌, ◌/◌, ◌%◌, ◌≤◌, ◌<◌}
use native.Mathlib.Omega.{arith}
use lib.Dec.{eqb, ltb}
use lib.ListN.{length, drop, get_or, set, drop_of_length-le, length-set}
use lib.Seq.{drop-cons, drop-drop}
use borrow.Author.Tests.{eq-eqb, ne_eqb, lt-ltb, le-ltb, ltb-true, ltb-false}
use Rattle.rules.specs.Bytes.{same, is_none, all, each, first_number, given, refused, unless}
use Rattle.rules.specs.Names.{names, three_in, one_in, three_of, one_of, threes, three_letters, one_letters}
use Rattle.rules.proofs.Lists.{each_more, each-end, length-each}
use Rattle.rules.proofs.Over.{over_from, from_end, from_turn}
use Rattle.names.specs.Rows.{table, three_at, one_at, is_one, is_three}

-- the names, read off a table four bytes at a time
unfoldable pub three_from : List ℕ → ℕ → List ℕ
three_from [] r = []
three_from (x ∷ []) r = []
three_from (x ∷ a ∷ []) r = []
three_from (x ∷ a ∷ b ∷ []) r = []
three_from (x ∷ a ∷ b ∷ c ∷ t) r = if eqb r x then a ∷ b ∷ c ∷ [] else three_from t r

unfoldable pub one_from : List ℕ → List ℕ → List ℕ
one_from [] s = []
one_from (x ∷ []) s = []
one_from (x ∷ a ∷ []) s = []
one_from (x ∷ a ∷ b ∷ []) s = []
one_from (x ∷ a ∷ b ∷ c ∷ t) s = if same s (a ∷ b ∷ c ∷ []) then x ∷ [] else one_from t s

three_is : (r : ℕ) → three_from table r ≡ three_of r
unfolding three_from table each names three_of three_in
three_is r = refl

one_is : (s : List ℕ) → one_from table s ≡ one_of s
unfolding one_from table each names one_of one_in
one_is s = refl

four : (t : List ℕ) (i : ℕ) → i + 3 < length t → drop i t ≡ get_or t i 0 ∷ get_or t (i + 1) 0 ∷ get_or t (i + 2) 0 ∷ get_or t (i + 3) 0 ∷ drop (i + 4) t
four t i h =
    let e₁ : i + 1 ≡ suc i = omega arith in
    let e₂ : i + 2 ≡ suc (suc i) = omega arith in
    let e₃ : i + 3 ≡ suc (suc (suc i)) = omega arith in
    let e₄ : i + 4 ≡ suc (suc (suc (suc i))) = omega arith in
    rw (e₁, e₂, e₃, e₄, drop-cons t i 0 (omega arith), drop-cons t (suc i) 0 (omega arith), drop-cons t (suc (suc i)) 0 (omega arith), drop-cons t (suc (suc (suc i))) 0 (omega arith))

-- a search, row by row
module _ (t : List ℕ) (holds : t ≡ table) where
  pub three-start : (r : ℕ) → three_from (drop 0 t) r ≡ three_of r
  three-start r = rw holds (three_is r)

  pub one-start : (s : List ℕ) → one_from (drop 0 t) s ≡ one_of s
  one-start s = rw holds (one_is s)

  long : length t ≡ 100
  unfolding table each names
  long = ap length holds

  row : (k : ℕ) → k < 25 → drop (k * 4) t ≡ get_or t (k * 4) 0 ∷ get_or t (k * 4 + 1) 0 ∷ get_or t (k * 4 + 2) 0 ∷ get_or t (k * 4 + 3) 0 ∷ drop ((k + 1) * 4) t
  row k h = let e : (k + 1) * 4 ≡ k * 4 + 4 = omega arith in rw e (four t (k * 4) (omega (arith, long)))

  past : (k : ℕ) → 25 ≤ k → drop (k * 4) t ≡ []
  past k h = drop_of_length-le t {i = k * 4} (omega (arith, long))

  pub three-at : (k : ℕ) → k < 25 → three_at k ≡ get_or t (k * 4 + 1) 0 ∷ get_or t (k * 4 + 2) 0 ∷ get_or t (k * 4 + 3) 0 ∷ []
  three-at k h = rw (← holds, ← drop-drop 1 (k * 4) t, row k h)

  pub one-at : (k : ℕ) → k < 25 → one_at k ≡ get_or t (k * 4) 0 ∷ []
  one-at k h = rw (← holds, row k h)

  module _ (k : ℕ) (h : k < 25) where
    pub three-found : (r : ℕ) → r ≡ get_or t (k * 4) 0 → three_from (drop (k * 4) t) r ≡ three_at k
    unfolding three_from
    three-found r e = rw (three-at k h, row k h, eq-eqb r (get_or t (k * 4) 0) e)

    pub three-more : (r : ℕ) → (r ≡ get_or t (k * 4) 0 → ⊥) → three_from (drop (k * 4) t) r ≡ three_from (drop ((k + 1) * 4) t) r
    unfolding three_from
    three-more r e = rw (row k h, ne_eqb r (get_or t (k * 4) 0) e)

    module _ (a b c : ℕ) where
      pub one_found : eqb a (get_or t (k * 4 + 1) 0) && (eqb b (get_or t (k * 4 + 2) 0) && eqb c (get_or t (k * 4 + 3) 0)) ≡ true → one_from (drop (k * 4) t) (a ∷ b ∷ c ∷ []) ≡ one_at k
      unfolding one_from same
      one_found e = rw (one-at k h, row k h, and-true, e)

      pub one_more : eqb a (get_or t (k * 4 + 1) 0) && (eqb b (get_or t (k * 4 + 2) 0) && eqb c (get_or t (k * 4 + 3) 0)) ≡ false → one_from (drop (k * 4) t) (a ∷ b ∷ c ∷ []) ≡ one_from (drop ((k + 1) * 4) t) (a ∷ b ∷ c ∷ [])
      unfolding one_from same
      one_more e = rw (row k h, and-true, e)

  pub three-none : (r k : ℕ) → 25 ≤ k → three_from (drop (k * 4) t) r ≡ three_at 25
  unfolding three_from table each names
  three-none r k h = rw (past k h)

  pub one_none : (s : List ℕ) (k : ℕ) → 25 ≤ k → one_from (drop (k * 4) t) s ≡ one_at 25
  unfolding one_from table each names
  one_none s k h = rw (past k h)

-- a row tells whether there is a name
known_three : (k : ℕ) (b : Bool) → ltb k 25 ≡ b → not (is_none (three_at k)) ≡ b
known_three k true e = rw (three-at table refl k (ltb-true k 25 e))
known_three k false e = rw (drop_of_length-le table {i = k * 4 + 1} (omega (arith, long table refl, ltb-false k 25 e)))

known_one : (k : ℕ) (b : Bool) → ltb k 25 ≡ b → not (is_none (one_at k)) ≡ b
known_one k true e = rw (one-at table refl k (ltb-true k 25 e))
known_one k false e = rw (past table refl k (ltb-false k 25 e))

pub is_one_lem : (r k : ℕ) → three_of r ≡ three_at k → is_one r ≡ ltb k 25
is_one_lem r k e = rw e (known_three k (ltb k 25) refl)

pub is_three_lem : (s : List ℕ) (k : ℕ) → one_of s ≡ one_at k → is_three s ≡ ltb k 25
is_three_lem s k e = rw e (known_one k (ltb k 25) refl)

-- three bytes at a time
abbrev pub name_at : List ℕ → ℕ → List ℕ
name_at s i = get_or s (i * 3) 0 ∷ get_or s (i * 3 + 1) 0 ∷ get_or s (i * 3 + 2) 0 ∷ []

module _ (s : List ℕ) (i : ℕ) where
  threes-cons : i < length s / 3 → threes (drop (i * 3) s) ≡ name_at s i ∷ threes (drop ((i + 1) * 3) s)
  unfolding threes
  threes-cons h =
      let e₁ : i * 3 + 1 ≡ suc (i * 3) = omega arith in
      let e₂ : i * 3 + 2 ≡ suc (suc (i * 3)) = omega arith in
      let e₃ : (i + 1) * 3 ≡ suc (suc (suc (i * 3))) = omega arith in
      rw (e₁, e₂, e₃, drop-cons s (i * 3) 0 (omega arith), drop-cons s (suc (i * 3)) 0 (omega arith), drop-cons s (suc (suc (i * 3))) 0 (omega arith))

  pub threes-end : length s % 3 ≡ 0 → length s / 3 ≤ i → threes (drop (i * 3) s) ≡ []
  unfolding threes
  threes-end e h = rw (drop_of_length-le s {i = i * 3} (omega arith))

length-threes : (s : List ℕ) → length s % 3 ≡ 0 → length (threes s) ≡ length s / 3
unfolding threes
length-threes [] e = refl
length-threes (a ∷ []) e = absurd (omega arith)
length-threes (a ∷ b ∷ []) e = absurd (omega arith)
length-threes (a ∷ b ∷ c ∷ s) e = omega (arith, length-threes s (omega arith))

-- a name has three letters, and a residue one
long_pick : (m : ℕ) (b : Bool) (x y : List ℕ) → length x ≡ m → (not (is_none y) ≡ true → length y ≡ m) → not (is_none (if b then x else y)) ≡ true → length (if b then x else y) ≡ m
long_pick m true x y h k e = h
long_pick m false x y h k e = k e

long_three : (t : List ℕ) (r : ℕ) → not (is_none (three_from t r)) ≡ true → length (three_from t r) ≡ 3
unfolding three_from
long_three [] r e = absurd (false≢true e)
long_three (x ∷ []) r e = absurd (false≢true e)
long_three (x ∷ a ∷ []) r e = absurd (false≢true e)
long_three (x ∷ a ∷ b ∷ []) r e = absurd (false≢true e)
long_three (x ∷ a ∷ b ∷ c ∷ t) r e = long_pick 3 (eqb r x) (a ∷ b ∷ c ∷ []) (three_from t r) refl (long_three t r) e

long_one : (t s : List ℕ) → not (is_none (one_from t s)) ≡ true → length (one_from t s) ≡ 1
unfolding one_from
long_one [] s e = absurd (false≢true e)
long_one (x ∷ []) s e = absurd (false≢true e)
long_one (x ∷ a ∷ []) s e = absurd (false≢true e)
long_one (x ∷ a ∷ b ∷ []) s e = absurd (false≢true e)
long_one (x ∷ a ∷ b ∷ c ∷ t) s e = long_pick 1 (same s (a ∷ b ∷ c ∷ [])) (x ∷ []) (one_from t s) refl (long_one t s) e

length_ones : (s : List ℕ) → all is_one s ≡ true → length (each three_of s) ≡ length s * 3
length_ones = length-each is_one three_of 3 (λ r. rw (← three_is r) (long_three table r))

length-residues : (s : List ℕ) → length s % 3 ≡ 0 → all is_three (threes s) ≡ true → length (each one_of (threes s)) ≡ length s / 3
length-residues s e h =
    let one : (n : List ℕ) → is_three n ≡ true → length (one_of n) ≡ 1 = λ n. rw (← one_is n) (long_one table n) in
    omega (arith, length-each is_three one_of 1 one (threes s) h, length-threes s e)

-- the answer, by the tests
module _ (s : List ℕ) (room : ℕ) where
  pub ones-unknown : all is_one s ≡ false → three_letters s room ≡ refused 15
  unfolding three_letters first_number unless
  ones-unknown e = rw e

  pub ones-short : all is_one s ≡ true → room / 3 < length s → three_letters s room ≡ refused 15
  unfolding three_letters first_number unless
  ones-short e h = rw (e, lt-ltb room (length (each three_of s)) (omega (arith, length_ones s e)))

  pub ones-given : all is_one s ≡ true → length s ≤ room / 3 → (three_letters s room ≡ given (each three_of s)) × (length s * 3 ≡ length (each three_of s))
  unfolding three_letters first_number unless
  ones-given e h = (rw (e, le-ltb room (length (each three_of s)) (omega (arith, length_ones s e))), sym (length_ones s e))

  pub threes-uneven : (length s % 3 ≡ 0 → ⊥) → one_letters s room ≡ refused 15
  unfolding one_letters first_number unless
  threes-uneven e = rw (ne_eqb (length s % 3) 0 e)

  module _ (even : length s % 3 ≡ 0) where
    pub threes-unknown : all is_three (threes s) ≡ false → one_letters s room ≡ refused 15
    unfolding one_letters first_number unless
    threes-unknown e = rw (even, e)

    pub threes-short : all is_three (threes s) ≡ true → room < length s / 3 → one_letters s room ≡ refused 15
    unfolding one_letters first_number unless
    threes-short e h = rw (even, e, lt-ltb room (length (each one_of (threes s))) (omega (arith, length-residues s even e)))

    pub threes-given : all is_three (threes s) ≡ true → length s / 3 ≤ room → (one_letters s room ≡ given (each one_of (threes s))) × (length s / 3 ≡ length (each one_of (threes s)))
    unfolding one_letters first_number unless
    threes-given e h = (rw (even, e, le-ltb room (length (each one_of (threes s))) (omega (arith, length-residues s even e))), sym (length-residues s even e))

-- the loops' turns
module _ (s : List ℕ) (i : ℕ) (h : i < length s / 3) where
  pub threes-stop : is_three (name_at s i) ≡ false → all is_three (threes (drop (i * 3) s)) ≡ false
  unfolding all
  threes-stop e = rw (threes-cons s i h, e)

  pub threes-more : is_three (name_at s i) ≡ true → all is_three (threes (drop (i * 3) s)) ≡ all is_three (threes (drop ((i + 1) * 3) s))
  unfolding all
  threes-more e = rw (threes-cons s i h, e)

  -- the name, and those behind it
  pub threes-row : all is_three (threes (drop (i * 3) s)) ≡ true → (is_three (name_at s i) ≡ true) × (all is_three (threes (drop ((i + 1) * 3) s)) ≡ true)
  unfolding all
  threes-row a = (and-eq-true_iff (is_three (name_at s i)) (all is_three (threes (drop ((i + 1) * 3) s)))).0 (rw (threes-cons s i h) at a)

module _ (s out : List ℕ) (i : ℕ) (whole : List ℕ) where
  pub written-end : length s ≤ i → over_from (i * 3) (each three_of (drop i s)) out ≡ whole → out ≡ whole
  written-end h inv = sym (from_end (i * 3) out) ∙ (rw (each-end three_of s i h) at inv)

  pub residues-end : length s % 3 ≡ 0 → length s / 3 ≤ i → over_from i (each one_of (threes (drop (i * 3) s))) out ≡ whole → out ≡ whole
  unfolding each
  residues-end e h inv = sym (from_end i out) ∙ (rw (threes-end s i e h) at inv)

module _ (t : List ℕ) (holds : t ≡ table) (s : List ℕ) (i k : ℕ) (r : k < 25) (out whole : List ℕ) where
  pub put_three : i < length s → three_of (get_or s i 0) ≡ three_at k → length s * 3 ≤ length out → over_from (i * 3) (each three_of (drop i s)) out ≡ whole → over_from ((i + 1) * 3) (each three_of (drop (i + 1) s)) (set (set (set out (i * 3) (get_or t (k * 4 + 1) 0)) (i * 3 + 1) (get_or t (k * 4 + 2) 0)) (i * 3 + 2) (get_or t (k * 4 + 3) 0)) ≡ whole
  put_three h e room inv =
      let x = get_or t (k * 4 + 1) 0 in
      let y = get_or t (k * 4 + 2) 0 in
      let z = get_or t (k * 4 + 3) 0 in
      let q = each three_of (drop (i + 1) s) in
      let is : each three_of (drop i s) ≡ x ∷ y ∷ z ∷ q = each_more three_of s i h ∙ ap (λ (l : List ℕ). l ++ q) (e ∙ three-at t holds k r) in
      let e₂ : i * 3 + 2 ≡ i * 3 + 1 + 1 = omega arith in
      let e₃ : (i + 1) * 3 ≡ i * 3 + 1 + 1 + 1 = omega arith in
      let d₁ = set out (i * 3) x in
      let d₂ = set d₁ (i * 3 + 1) y in
      rw (e₂, e₃)
      (from_turn (i * 3 + 1 + 1) z (z ∷ q) q d₂ whole (simp length-set (omega arith)) refl
      (from_turn (i * 3 + 1) y (y ∷ z ∷ q) (z ∷ q) d₁ whole (simp length-set (omega arith)) refl
      (from_turn (i * 3) x (each three_of (drop i s)) (y ∷ z ∷ q) out whole (omega arith) is inv)))

  pub put_one : i < length s / 3 → one_of (name_at s i) ≡ one_at k → length s / 3 ≤ length out → over_from i (each one_of (threes (drop (i * 3) s))) out ≡ whole → over_from (i + 1) (each one_of (threes (drop ((i + 1) * 3) s))) (set out i (get_or t (k * 4) 0)) ≡ whole
  unfolding each
  put_one h e room inv =
      let q = each one_of (threes (drop ((i + 1) * 3) s)) in
      let is : each one_of (threes (drop (i * 3) s)) ≡ get_or t (k * 4) 0 ∷ q = rw (threes-cons s i h) (ap (λ (l : List ℕ). l ++ q) (e ∙ one-at t holds k r)) in
      from_turn i (get_or t (k * 4) 0) (each one_of (threes (drop (i * 3) s))) q out whole (omega arith) is inv
