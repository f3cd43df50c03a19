-- Laws of reading: a codon at a time, a piece at a time, an exception at a time, and up to the first `*`.
-- Assumes nothing.
use Rattle.std.specs.Prelude.{if◌then◌else◌}
use mathlib.Core.Path.{◌≡◌, refl, sym, ap, ◌∙◌}
use mathlib.Core.Bool.{Bool, true, false}
use mathlib.Core.List.{List, [], ◌∷◌, ◌++◌}
use Prim.Native.Nat.{ℕ, zero, suc, ◌+◌, ◌-◌, ◌*◌, ◌/◌, ◌%◌, ◌≤◌, ◌<◌}
use native.Mathlib.Omega.{arith}
use lib.Dec.{eqb}
use lib.ListN.{length, get_or, take, drop, length-append, length-drop, take-append-drop}
use lib.Seq.{drop-cons, length-take-le, get_or_at}
use borrow.Author.Tests.{eq-eqb, ne_eqb}
use Rattle.rules.specs.declared.Exception.{Exception}
use Rattle.rules.specs.Bytes.{byte}
use Rattle.rules.specs.Codons.{codon}
use Rattle.rules.specs.Translation.{excepted, residues_from, translated, residue_count, before_stop, through_stop, whole_codons}
use Rattle.rules.proofs.Translation.{length-translated}

-- one X where bytes remain
abbrev pub rest_of : ℕ → List ℕ
rest_of zero = []
rest_of (suc r) = byte "X" ∷ []

module _ (t : ℕ) (es : List Exception) where
  residues-cons : (n a b c : ℕ) (s : List ℕ) → residues_from t es n (a ∷ b ∷ c ∷ s) ≡ excepted es n (codon t a b c) ∷ residues_from t es (suc n) s
  unfolding residues_from
  residues-cons n a b c s = refl

  -- one whole codon more
  pub residues-more : (s : List ℕ) (i : ℕ) → i < length s / 3
      → residues_from t es (i + 1) (drop (i * 3) s)
      ≡ excepted es (i + 1) (codon t (get_or s (i * 3) 0) (get_or s (i * 3 + 1) 0) (get_or s (i * 3 + 2) 0))
      ∷ residues_from t es (i + 1 + 1) (drop ((i + 1) * 3) s)
  residues-more s i h =
      let next : (i + 1) * 3 ≡ suc (suc (suc (i * 3))) = omega arith in
      let one : i * 3 + 1 ≡ suc (i * 3) = omega arith in
      let two : i * 3 + 2 ≡ suc (suc (i * 3)) = omega arith in
      let after : i + 1 + 1 ≡ suc (i + 1) = omega arith in
      rw (
        next,
        one,
        two,
        after,
        drop-cons s (i * 3) 0 (omega arith),
        drop-cons s (suc (i * 3)) 0 (omega arith),
        drop-cons s (suc (suc (i * 3))) 0 (omega arith),
      )
      (residues-cons (i + 1) (get_or s (i * 3) 0) (get_or s (suc (i * 3)) 0) (get_or s (suc (suc (i * 3))) 0) (drop (suc (suc (suc (i * 3)))) s))

  -- no whole codon more
  rest-of : (n : ℕ) (s : List ℕ) → length s < 3 → residues_from t es n s ≡ rest_of (length s)
  unfolding residues_from
  rest-of n [] h = refl
  rest-of n (a ∷ []) h = refl
  rest-of n (a ∷ b ∷ []) h = refl
  rest-of n (a ∷ b ∷ c ∷ s) h = absurd (omega arith)

  pub residues-rest : (s : List ℕ) (i n : ℕ) → i ≡ length s / 3 → residues_from t es n (drop (i * 3) s) ≡ rest_of (length s % 3)
  residues-rest s i n e =
      let left : length (drop (i * 3) s) ≡ length s % 3 = length-drop (i * 3) s ∙ omega arith in
      rest-of n (drop (i * 3) s) (omega arith) ∙ ap rest_of left

  -- a piece of whole codons, and what stands behind it: no X between them
  residues-append : (n : ℕ) (s u : List ℕ) → length s % 3 ≡ 0 → residues_from t es n (s ++ u) ≡ residues_from t es n s ++ residues_from t es (n + length s / 3) u
  unfolding residues_from
  residues-append n [] u h = ap (λ (k : ℕ). residues_from t es k u) (omega arith)
  residues-append n (a ∷ []) u h = absurd (omega arith)
  residues-append n (a ∷ b ∷ []) u h = absurd (omega arith)
  residues-append n (a ∷ b ∷ c ∷ s) u h =
      let k : n + suc (suc (suc (length s))) / 3 ≡ suc n + length s / 3 = omega arith in
      rw (k, residues-append (suc n) s u (omega arith))

  pub translated-append : (s u : List ℕ) → length s % 3 ≡ 0 → translated t es (s ++ u) ≡ translated t es s ++ residues_from t es (length s / 3 + 1) u
  unfolding translated
  translated-append s u h =
      let k : length s / 3 + 1 ≡ 1 + length s / 3 = omega arith in
      rw k (residues-append 1 s u h)

  -- the whole codons, and the X where bytes remain
  pub whole-and-rest : (s : List ℕ) → translated t es s ≡ translated t es (whole_codons s) ++ rest_of (length s % 3)
  unfolding whole_codons
  whole-and-rest s =
      let k : ℕ = length s - length s % 3 in
      let long : length (take k s) ≡ k = length-take-le k s (omega arith) in
      let left : length (drop k s) ≡ length s % 3 = length-drop k s ∙ omega arith in
      ap (translated t es) (sym (take-append-drop k s))
      ∙ translated-append (take k s) (drop k s) (rw long (omega arith))
      ∙ ap (λ (l : List ℕ). translated t es (take k s) ++ l) (rest-of (length (take k s) / 3 + 1) (drop k s) (omega arith) ∙ ap rest_of left)

-- a residue of a translation, by its codon
pub residue_at_lem : (t : ℕ) (es : List Exception) (u : List ℕ) (i : ℕ) → i < length u / 3
    → get_or (translated t es u) i 0 ≡ excepted es (i + 1) (codon t (get_or u (i * 3) 0) (get_or u (i * 3 + 1) 0) (get_or u (i * 3 + 2) 0))
unfolding residue_count
residue_at_lem t es u i h =
    let long : length (take (i * 3) u) ≡ i * 3 = length-take-le (i * 3) u (omega arith) in
    let count : length (translated t es (take (i * 3) u)) ≡ i = length-translated t es (take (i * 3) u) ∙ omega (arith, long) in
    let number : length (take (i * 3) u) / 3 + 1 ≡ i + 1 = omega (arith, long) in
    let split : translated t es u ≡ translated t es (take (i * 3) u) ++ residues_from t es (i + 1) (drop (i * 3) u) =
    ap (translated t es) (sym (take-append-drop (i * 3) u)) ∙ translated-append t es (take (i * 3) u) (drop (i * 3) u) (omega (arith, long)) ∙ rw number in
    rw (split, residues-more t es u i h) (get_or_at (translated t es (take (i * 3) u)) _ _ 0 i count)

-- a part of the whole codons
pub length_whole : (s : List ℕ) → length (whole_codons s) ≡ length s / 3 * 3
unfolding whole_codons
length_whole s = length-take-le (length s - length s % 3) s (omega arith) ∙ omega arith

-- the first `*`
pub before_here : (r : ℕ) (rs : List ℕ) → r ≡ byte "*" → before_stop (r ∷ rs) ≡ 0
unfolding before_stop
before_here r rs e = rw (eq-eqb r (byte "*") e)

pub before_later : (r : ℕ) (rs : List ℕ) → (r ≡ byte "*" → ⊥) → before_stop (r ∷ rs) ≡ suc (before_stop rs)
unfolding before_stop
before_later r rs e = rw (ne_eqb r (byte "*") e)

pub through_here : (r : ℕ) (rs : List ℕ) → r ≡ byte "*" → through_stop (r ∷ rs) ≡ r ∷ []
unfolding through_stop
through_here r rs e = rw (eq-eqb r (byte "*") e)

pub through_later : (r : ℕ) (rs : List ℕ) → (r ≡ byte "*" → ⊥) → through_stop (r ∷ rs) ≡ r ∷ through_stop rs
unfolding through_stop
through_later r rs e = rw (ne_eqb r (byte "*") e)

pub through_rest : (r : ℕ) → through_stop (rest_of r) ≡ rest_of r
unfolding through_stop
through_rest zero = refl
through_rest (suc r) = refl

before_rest : (r : ℕ) → before_stop (rest_of r) ≡ length (rest_of r)
unfolding before_stop
before_rest zero = refl
before_rest (suc r) = refl

-- a `*` in the first of two lists is the first; where there is none, the first of the second is
pub before-append : (rs qs : List ℕ) → before_stop rs < length rs → before_stop (rs ++ qs) ≡ before_stop rs
unfolding before_stop
before-append [] qs h = absurd (omega arith)
before-append (r ∷ rs) qs h = at (eqb r (byte "*")) h (before-append rs qs)
  where
    at : (b : Bool) → (if b then 0 else suc (before_stop rs)) < suc (length rs) → (before_stop rs < length rs → before_stop (rs ++ qs) ≡ before_stop rs) → (if b then 0 else suc (before_stop (rs ++ qs))) ≡ (if b then 0 else suc (before_stop rs))
    at true k f = refl
    at false k f = ap suc (f (omega arith))

before_none : (rs qs : List ℕ) → length rs ≤ before_stop rs → before_stop (rs ++ qs) ≡ length rs + before_stop qs
unfolding before_stop
before_none [] qs h = omega arith
before_none (r ∷ rs) qs h = at (eqb r (byte "*")) h (before_none rs qs)
  where
    at : (b : Bool) → suc (length rs) ≤ (if b then 0 else suc (before_stop rs)) → (length rs ≤ before_stop rs → before_stop (rs ++ qs) ≡ length rs + before_stop qs) → (if b then 0 else suc (before_stop (rs ++ qs))) ≡ suc (length rs) + before_stop qs
    at true k f = absurd (omega arith)
    at false k f = omega (arith, f (omega arith))

-- what the number of codons before the first stop codon tells of all residues
module _ (t : ℕ) (es : List Exception) (s : List ℕ) where
  whole-codons : length (translated t es (whole_codons s)) ≡ length s / 3
  unfolding residue_count
  whole-codons = length-translated t es (whole_codons s) ∙ omega (arith, length_whole s)

  pub stop-found : before_stop (translated t es (whole_codons s)) < length s / 3 → before_stop (translated t es s) ≡ before_stop (translated t es (whole_codons s))
  stop-found h =
      ap before_stop (whole-and-rest t es s) ∙ before-append (translated t es (whole_codons s)) (rest_of (length s % 3)) (omega (arith, whole-codons))

  pub no_stop_lem : length s / 3 ≤ before_stop (translated t es (whole_codons s)) → before_stop (translated t es s) ≡ length (translated t es s)
  no_stop_lem h =
      let w : List ℕ = translated t es (whole_codons s) in
      let left : List ℕ = rest_of (length s % 3) in
      ap before_stop (whole-and-rest t es s)
      ∙ before_none w left (omega (arith, whole-codons))
      ∙ omega (arith, before_rest (length s % 3), length-append w left, ap (λ (l : List ℕ). length l) (whole-and-rest t es s))

-- exceptions one after another
pub excepted-append : (xs ys : List Exception) (n r : ℕ) → excepted (xs ++ ys) n r ≡ excepted ys n (excepted xs n r)
unfolding excepted
excepted-append [] ys n r = refl
excepted-append (x ∷ xs) ys n r = excepted-append xs ys n (if eqb x.codon n then x.residue else r)
