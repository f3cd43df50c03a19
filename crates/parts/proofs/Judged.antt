-- Laws of the tests: L in three parts, a search for a stop codon by codon, and 28.
-- Assumes nothing.
use mathlib.Core.Path.{◌≡◌, refl, sym, ap, ◌∙◌}
use mathlib.Core.Bool.{Bool, true, false, ◌&&◌, ◌||◌, not}
use mathlib.Core.List.{List, [], ◌∷◌, ◌++◌}
use Prim.Native.Nat.{ℕ, zero, suc, ◌+◌, ◌%◌, ◌≤◌, ◌<◌}
use Rattle.std.specs.Prelude.{Ok, Err}
use Rattle.std.specs.Prelude.{Result as Returned}
use native.Mathlib.Decide.{dec_lt}
use native.Mathlib.Numerals.{add-one}
use native.Mathlib.Omega.{arith}
use lib.Dec.{eqb, ltb}
use lib.ListN.{length, take, drop, get_or, take-append-drop}
use lib.Seq.{take-suc, take_at, drop-cons}
use borrow.Author.Tests.{eq-eqb, ne_eqb, lt-ltb, ltb-false}
use Rattle.rules.specs.declared.Cds.{Cds}
use Rattle.rules.specs.declared.Exceptions.{Exceptions}
use Rattle.rules.specs.Bytes.{byte, all, count}
use Rattle.rules.specs.Translation.{exception_list, translated, residue_count, whole_codons}
use Rattle.rules.specs.Reference.{is_short_end, size, cds, codons, reference_protein, is_cut_short}
use Rattle.rules.specs.Refusal.{limits, reference_refusal}
use Rattle.rules.specs.declared.Refusal.{Refusal}
use Rattle.rules.specs.Refusals.{refusal_number, refusal_of}
use Rattle.rules.specs.Views.{reference_of}
use Rattle.rules.proofs.Tests.{or_right}
use Rattle.rules.proofs.Translation.{length-translated}
use Rattle.rules.proofs.Reading.{rest_of, length_whole, whole-and-rest}
use Rattle.rules.proofs.Reference.{length-cds, length_protein}
use Rattle.letters.specs.Sets.{is_base}
use Rattle.reference.specs.Known.{early_refusal, end_refusal, judged_of, Readable}
use Rattle.reference.proofs.Stops.{count-append}
use Rattle.reference.proofs.Judging.{was-refused, was-given, judged-early, judged-clear, judged-late}

-- L by the code's sum, which is cut where it is large
module _ (n size : ℕ) (same : size ≤ limits.longest → size ≡ n) (large : limits.longest < size → limits.longest < n) where
  tested : (ltb n 1 || ltb limits.longest n) ≡ (ltb size 1 || ltb limits.longest size)
  tested = by (dec_lt limits.longest size)
    where
      or-true : (b : Bool) → (b || true) ≡ true
      or-true true = refl
      or-true false = refl

      by : Dec (limits.longest < size) → (ltb n 1 || ltb limits.longest n) ≡ (ltb size 1 || ltb limits.longest size)
      by (yes h) = rw (lt-ltb limits.longest size h, lt-ltb limits.longest n (large h), or-true (ltb n 1), or-true (ltb size 1))
      by (no h) = rw (same (omega arith))

  pub long : (ltb size 1 || ltb limits.longest size) ≡ true → (ltb n 1 || ltb limits.longest n) ≡ true
  long h = tested ∙ h

  pub short : (ltb size 1 || ltb limits.longest size) ≡ false → (size ≡ n) × ((ltb n 1 || ltb limits.longest n) ≡ false)
  short h = (same (ltb-false limits.longest size (or_right (ltb size 1) (ltb limits.longest size) h)), tested ∙ h)

-- a search of R, codon by codon
rest_stopless : (n : ℕ) → count (byte "*") (rest_of n) ≡ 0
unfolding count
rest_stopless zero = refl
rest_stopless (suc n) = refl

one_stop : (r : ℕ) → r ≡ byte "*" → count (byte "*") (r ∷ []) ≡ 1
unfolding count
one_stop r h = rw (eq-eqb (byte "*") r (sym h))

no_stop_lem : (r : ℕ) → (r ≡ byte "*" → ⊥) → count (byte "*") (r ∷ []) ≡ 0
unfolding count
no_stop_lem r h = rw (ne_eqb (byte "*") r (λ z. h (sym z)))

module _ (s : List ℕ) (c : Cds) (e : Exceptions) (x : Readable s c e) where
  abbrev R : List ℕ
  R = reference_protein (reference_of s c e)

  pub whole-residues : codons (reference_of s c e) ≤ length R
  unfolding codons residue_count
  whole-residues = omega (arith, length_protein (reference_of s c e) x.sound.bounds)

  pub two-codons : 2 ≤ codons (reference_of s c e)
  unfolding codons
  two-codons = omega (arith, x.sound.bounds.long)

  pub turned : (k : ℕ) → k < codons (reference_of s c e) → count (byte "*") (take k R) ≡ 0 → (get_or R k 0 ≡ byte "*" → ⊥) → count (byte "*") (take (k + 1) R) ≡ 0
  turned k h none other =
      let fits : k < length R = omega (arith, whole-residues) in
      rw (add-one, take-suc R k 0 fits, count-append (byte "*") (take k R) (get_or R k 0 ∷ [])) (omega (arith, none, no_stop_lem (get_or R k 0) other))

  pub stopped : (k : ℕ) → k < codons (reference_of s c e) → get_or R k 0 ≡ byte "*" → false ≡ eqb (count (byte "*") R) 0
  stopped k h is =
      let fits : k < length R = omega (arith, whole-residues) in
      let split : count (byte "*") R ≡ count (byte "*") (take k R) + (count (byte "*") (get_or R k 0 ∷ []) + count (byte "*") (drop (suc k) R)) =
      ap (count (byte "*")) (sym (take-append-drop k R)) ∙ count-append (byte "*") (take k R) (drop k R)
      ∙ ap (λ (n : ℕ). count (byte "*") (take k R) + n) (ap (count (byte "*")) (drop-cons R k 0 fits) ∙ count-append (byte "*") (get_or R k 0 ∷ []) (drop (suc k) R)) in
      sym (ne_eqb (count (byte "*") R) 0 (λ z. omega (arith, z, split, one_stop (get_or R k 0) is)))

  pub passed : (k : ℕ) → codons (reference_of s c e) ≤ k → k ≤ codons (reference_of s c e) → count (byte "*") (take k R) ≡ 0 → true ≡ eqb (count (byte "*") R) 0
  unfolding codons reference_protein residue_count
  passed k h j none =
      let u = cds (reference_of s c e) in
      let es = exception_list e in
      let xs = translated c.table es (whole_codons u) in
      let long = length-cds (reference_of s c e) x.sound.bounds in
      let many : length xs ≡ k = length-translated c.table es (whole_codons u) ∙ omega (arith, length_whole u, long, h, j) in
      let split : R ≡ xs ++ rest_of (length u % 3) = whole-and-rest c.table es u in
      let front : take k R ≡ xs = ap (take k) split ∙ take_at xs (rest_of (length u % 3)) k many in
      let all : count (byte "*") R ≡ 0 = ap (count (byte "*")) split ∙ count-append (byte "*") xs (rest_of (length u % 3)) ∙ omega (arith, rest_stopless (length u % 3), ap (count (byte "*")) front, none) in
      sym (eq-eqb (count (byte "*") R) 0 all)

  -- the code's tests of 28
  module _ (known : Bool) (is : known ≡ is_short_end c.end) (n : ℕ) (long : n ≡ length s) where
    pub not-cut-short : (not known || not (eqb c.ce n)) ≡ true → false ≡ is_cut_short (reference_of s c e)
    unfolding is_cut_short size
    not-cut-short h = rw (← is, ← long) (at known (eqb c.ce n) h)
      where
        at : (a b : Bool) → (not a || not b) ≡ true → false ≡ (a && b && eqb (count (byte "*") R) 0)
        at false b h = refl
        at true false h = refl
        at true true h = cc

    pub cut_short_lem : (not known || not (eqb c.ce n)) ≡ false → (t : Bool) → t ≡ eqb (count (byte "*") R) 0 → t ≡ is_cut_short (reference_of s c e)
    unfolding is_cut_short size
    cut_short_lem h t told = rw (← is, ← long) (at known (eqb c.ce n) h)
      where
        at : (a b : Bool) → (not a || not b) ≡ false → t ≡ (a && b && eqb (count (byte "*") R) 0)
        at false b h = cc
        at true false h = cc
        at true true h = told

-- all refusals, by 1 to 5 and by 6 or 28
module _ (longest : ℕ) (s : List ℕ) (c : Cds) (e : Exceptions) where
  pub refused-early : (r : Refusal) → refusal_number r ≡ early_refusal longest (reference_of s c e) → refusal_number r ≡ reference_refusal longest (reference_of s c e)
  unfolding judged_of
  refused-early r is = sym (was-refused _ _ _ (judged-early longest s c e r (sym is))).0

  pub passed-early : {A : Type 0} (x : Returned A Refusal) → early_refusal longest (reference_of s c e) ≡ 0 → refusal_of x ≡ end_refusal (reference_of s c e)
      → refusal_of x ≡ reference_refusal longest (reference_of s c e)
  unfolding judged_of
  passed-early (Ok x) none is = sym (was-given _ _ _ (judged-clear longest s c e none (all is_base s) refl is)).0
  passed-early (Err r) none is = sym (was-refused _ _ _ (judged-late longest s c e none r is)).0
