-- Laws of translation without exceptions in pieces, and of the first `*` in two lists.
-- Assumes nothing.
use Rattle.std.specs.Prelude.{if◌then◌else◌}
use mathlib.Core.Path.{◌≡◌, refl, sym, ap, ◌∙◌}
use mathlib.Core.Bool.{Bool, true, false}
use mathlib.Core.List.{List, [], ◌∷◌, ◌++◌, append-nil}
use Prim.Native.Nat.{ℕ, zero, suc, ◌+◌, ◌-◌, ◌*◌, ◌/◌, ◌%◌, ◌≤◌, ◌<◌, zero-le}
use native.Mathlib.Decide.{dec_lt}
use native.Mathlib.Omega.{arith}
use lib.Dec.{eqb}
use lib.ListN.{length, get_or, take, drop, take-append-drop}
use lib.Seq.{length-take-le, take_at, drop_at, take-append-le, get_or-take}
use borrow.Author.Tests.{eqb-true, eq-eqb}
use Rattle.rules.specs.Bytes.{byte}
use Rattle.rules.specs.Codons.{codon}
use Rattle.rules.specs.Translation.{excepted, residues_from, translated, residue_count, before_stop, through_stop}
use Rattle.rules.proofs.Translation.{length-translated, through_is, length_through}
use Rattle.rules.proofs.Reading.{translated-append, before-append}

module _ (t : ℕ) where
  -- it doesn't matter at which number codons begin
  pub any-number : (n m : ℕ) (s : List ℕ) → residues_from t [] n s ≡ residues_from t [] m s
  unfolding residues_from excepted
  any-number n m [] = refl
  any-number n m (a ∷ []) = refl
  any-number n m (a ∷ b ∷ []) = refl
  any-number n m (a ∷ b ∷ c ∷ s) = ap (codon t a b c ∷◌) (any-number (suc n) (suc m) s)

  -- whole codons, and what stands behind them
  pub plain-append : (s u : List ℕ) → length s % 3 ≡ 0 → translated t [] (s ++ u) ≡ translated t [] s ++ translated t [] u
  unfolding translated
  plain-append s u h = translated-append t [] s u h ∙ ap (λ (l : List ℕ). translated t [] s ++ l) (any-number (length s / 3 + 1) 1 u)

  -- the first k codons
  module _ (s : List ℕ) (k : ℕ) (h : k * 3 ≤ length s) where
    long : length (take (k * 3) s) ≡ k * 3
    long = length-take-le (k * 3) s h

    pub plain-split : translated t [] s ≡ translated t [] (take (k * 3) s) ++ translated t [] (drop (k * 3) s)
    plain-split = ap (translated t []) (sym (take-append-drop (k * 3) s)) ∙ plain-append (take (k * 3) s) (drop (k * 3) s) (rw long (omega arith))

    pub plain-count : length (translated t [] (take (k * 3) s)) ≡ k
    unfolding residue_count
    plain-count = length-translated t [] (take (k * 3) s) ∙ omega (arith, long)

    pub plain-take : take k (translated t [] s) ≡ translated t [] (take (k * 3) s)
    plain-take = ap (take k) plain-split ∙ take_at (translated t [] (take (k * 3) s)) (translated t [] (drop (k * 3) s)) k plain-count

    pub plain-drop : drop k (translated t [] s) ≡ translated t [] (drop (k * 3) s)
    plain-drop = ap (drop k) plain-split ∙ drop_at (translated t [] (take (k * 3) s)) (translated t [] (drop (k * 3) s)) k plain-count

-- a `*` in the first of two lists ends both
pub through_stopped : (s u : List ℕ) → before_stop s < length s → through_stop (s ++ u) ≡ through_stop s
through_stopped s u h = through_is (s ++ u) ∙ rw (before-append s u h) (take-append-le (suc (before_stop s)) s u (omega arith)) ∙ sym (through_is s)

-- where the first has none, it stays
pub through_goes : (s u : List ℕ) → length s ≤ before_stop s → through_stop (s ++ u) ≡ s ++ through_stop u
unfolding before_stop through_stop
through_goes [] u h = refl
through_goes (x ∷ s) u h = by (eqb x (byte "*")) h (through_goes s u)
  where
    by : (b : Bool) → suc (length s) ≤ (if b then 0 else suc (before_stop s)) → (length s ≤ before_stop s → through_stop (s ++ u) ≡ s ++ through_stop u)
        → (if b then x ∷ [] else (x ∷ through_stop (s ++ u))) ≡ x ∷ (s ++ through_stop u)
    by true k f = absurd (omega arith)
    by false k f = ap (x ∷◌) (f (omega arith))

pub through_all : (s : List ℕ) → length s ≤ before_stop s → through_stop s ≡ s
unfolding through_stop
through_all s h = ap through_stop (sym (append-nil s)) ∙ through_goes s [] h ∙ append-nil s

-- no residue is one
pub none_stops : (s : List ℕ) → ((j : ℕ) → j < length s → get_or s j 0 ≡ byte "*" → ⊥) → length s ≤ before_stop s
unfolding before_stop
none_stops [] h = omega arith
none_stops (x ∷ s) h = by (eqb x (byte "*")) refl (none_stops s (λ j l z. h (suc j) (omega arith) z))
  where
    by : (b : Bool) → eqb x (byte "*") ≡ b → length s ≤ before_stop s → suc (length s) ≤ (if b then 0 else suc (before_stop s))
    by true q k = absurd (h 0 (omega arith) (eqb-true x (byte "*") q))
    by false q k = omega arith

-- a `*` is no earlier than the first
pub before_at : (xs : List ℕ) (j : ℕ) → get_or xs j 0 ≡ byte "*" → before_stop xs ≤ j
unfolding before_stop
before_at [] j z = zero-le
before_at (x ∷ xs) zero z = rw (eq-eqb x (byte "*") z) zero-le
before_at (x ∷ xs) (suc j) z = by (eqb x (byte "*")) (before_at xs j z)
  where
    by : (b : Bool) → before_stop xs ≤ j → (if b then 0 else suc (before_stop xs)) ≤ suc j
    by true h = zero-le
    by false h = omega arith

stop_at : (xs : List ℕ) → before_stop xs < length xs → get_or xs (before_stop xs) 0 ≡ byte "*"
unfolding before_stop
stop_at [] h = absurd (omega arith)
stop_at (x ∷ xs) h = by (eqb x (byte "*")) refl h (stop_at xs)
  where
    by : (b : Bool) → eqb x (byte "*") ≡ b → (if b then 0 else suc (before_stop xs)) < suc (length xs) → (before_stop xs < length xs → get_or xs (before_stop xs) 0 ≡ byte "*")
        → get_or (x ∷ xs) (if b then 0 else suc (before_stop xs)) 0 ≡ byte "*"
    by true q k f = eqb-true x (byte "*") q
    by false q k f = f (omega arith)

-- the last residue that is read tells whether a stop was: `*`, or another
module _ (xs : List ℕ) where
  abbrev last : ℕ
  last = get_or (through_stop xs) (length (through_stop xs) - 1) 0

  pub last-stops : 1 ≤ length xs → last ≡ byte "*" → before_stop xs < length xs
  last-stops some z = by (dec_lt (before_stop xs) (length xs))
    where
      by : Dec (before_stop xs < length xs) → before_stop xs < length xs
      by (yes h) = h
      by (no h) =
          let all : through_stop xs ≡ xs = through_all xs (omega arith) in
          absurd (omega (arith, before_at xs (length xs - 1) (ap (λ (l : List ℕ). get_or l (length l - 1) 0) (sym all) ∙ z)))

  pub last_goes : (last ≡ byte "*" → ⊥) → length xs ≤ before_stop xs
  last_goes d = by (dec_lt (before_stop xs) (length xs))
    where
      by : Dec (before_stop xs < length xs) → length xs ≤ before_stop xs
      by (no h) = omega arith
      by (yes h) =
          let n : ℕ = before_stop xs in
          let long : length (through_stop xs) - 1 ≡ n = omega (arith, length_through xs) in
          absurd (d (ap (λ (k : ℕ). get_or (through_stop xs) k 0) long ∙ ap (λ (l : List ℕ). get_or l n 0) (through_is xs) ∙ get_or-take (suc n) xs n 0 (omega arith) ∙ stop_at xs h))
