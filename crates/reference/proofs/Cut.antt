-- Laws of 28: R has no `*` exactly if a search of the whole codons finds none.
-- Assumes nothing.
use Rattle.std.specs.Prelude.{if◌then◌else◌}
use mathlib.Core.Path.{◌≡◌, refl, sym, ap, ◌∙◌}
use mathlib.Core.Bool.{Bool, true, false, ◌&&◌, ◌||◌, not}
use mathlib.Core.List.{List, [], ◌∷◌}
use Prim.Native.Nat.{ℕ, zero, suc, ◌+◌, ◌-◌, ◌/◌, ◌%◌}
use native.Mathlib.Omega.{arith}
use lib.Dec.{eqb, eqb-suc-suc, eqb-suc-zero, eqb-zero-suc}
use lib.ListN.{length, take, drop}
use borrow.Author.Tests.{eqb-true, eqb-false, eq-eqb, ne_eqb}
use Rattle.rules.specs.declared.Cds.{Cds}
use Rattle.rules.specs.declared.Exceptions.{Exceptions}
use Rattle.rules.specs.Bytes.{byte, all, count, ◌↯◌, first_number}
use Rattle.rules.specs.Letters.{is_letter}
use Rattle.rules.specs.Translation.{exception_list, translated, residue_count, before_stop, whole_codons, folded_translated}
use Rattle.rules.specs.Reference.{Reference, at_stop, is_short_end, size, cds_size, reference_protein, ends_in_stop, is_cut_short, reference_tests}
use Rattle.rules.specs.Views.{reference_of}
use Rattle.rules.proofs.Tests.{all_take}
use Rattle.rules.proofs.Translation.{length-translated}
use Rattle.rules.proofs.Reading.{rest_of, length_whole, whole-and-rest}
use Rattle.rules.proofs.Reference.{length-cds}
use Rattle.places.proofs.Strict.{strict-translated}
use Rattle.reference.specs.Known.{end_refusal, Readable}
use Rattle.reference.proofs.Stops.{count-append}
use Rattle.reference.proofs.Reading.{cds-part, part-letters}

-- the search goes through a list exactly if it has no `*`
no_stop_lem : (s : List ℕ) → eqb (before_stop s) (length s) ≡ eqb (count (byte "*") s) 0
unfolding before_stop count
no_stop_lem [] = refl
no_stop_lem (r ∷ s) = at (eqb r (byte "*")) refl (no_stop_lem s)
  where
    at : (b : Bool) → eqb r (byte "*") ≡ b → eqb (before_stop s) (length s) ≡ eqb (count (byte "*") s) 0
        → eqb (if b then 0 else suc (before_stop s)) (suc (length s)) ≡ eqb (if eqb (byte "*") r then suc (count (byte "*") s) else count (byte "*") s) 0
    at true h k = rw (eq-eqb (byte "*") r (sym (eqb-true r (byte "*") h))) (eqb-zero-suc (length s) ∙ sym (eqb-suc-zero (count (byte "*") s)))
    at false h k = rw (ne_eqb (byte "*") r (λ z. eqb-false r (byte "*") h (sym z))) (eqb-suc-suc (before_stop s) (length s) ∙ k)

rest_stopless : (n : ℕ) → count (byte "*") (rest_of n) ≡ 0
unfolding count
rest_stopless zero = refl
rest_stopless (suc n) = refl

module _ (s : List ℕ) (c : Cds) (e : Exceptions) (x : Readable s c e) where
  abbrev part : List ℕ
  part = take (c.ce - (c.cs - 1)) (drop (c.cs - 1) s)

  pub stopless : (r : ℕ) → r ≡ before_stop (folded_translated c.table (exception_list e) (whole_codons part))
      → eqb r ((c.ce - (c.cs - 1)) / 3) ≡ eqb (count (byte "*") (reference_protein (reference_of s c e))) 0
  unfolding reference_protein whole_codons residue_count cds_size
  stopless r is =
      let t = c.table in
      let es = exception_list e in
      let xs = translated t es (whole_codons part) in
      let letters : all is_letter (whole_codons part) ≡ true = all_take is_letter (length part - length part % 3) part (part-letters s c e x) in
      let strict : folded_translated t es (whole_codons part) ≡ xs = strict-translated (whole_codons part) letters t es in
      let long : length part ≡ c.ce + 1 - c.cs = ap length (cds-part s c e x) ∙ length-cds (reference_of s c e) x.sound.bounds in
      let many : length xs ≡ (c.ce - (c.cs - 1)) / 3 = length-translated t es (whole_codons part) ∙ omega (arith, length_whole part, long, x.sound.bounds.first) in
      let none : count (byte "*") (translated t es part) ≡ count (byte "*") xs =
      ap (count (byte "*")) (whole-and-rest t es part) ∙ count-append (byte "*") xs (rest_of (length part % 3)) ∙ omega (arith, rest_stopless (length part % 3)) in
      rw (is, strict, ← many, ← cds-part s c e x, none) (no_stop_lem xs)

  -- the code's tests
  module _ (known : Bool) (is : known ≡ is_short_end c.end) where
    pub not-cut-short : (not known || not (eqb c.ce (length s))) ≡ true → false ≡ is_cut_short (reference_of s c e)
    unfolding is_cut_short size
    not-cut-short h = rw (← is) (at known (eqb c.ce (length s)) h)
      where
        at : (a b : Bool) → (not a || not b) ≡ true → false ≡ (a && b && eqb (count (byte "*") (reference_protein (reference_of s c e))) 0)
        at false b h = refl
        at true false h = refl
        at true true h = cc

    pub cut_short_lem : (r : ℕ) → r ≡ before_stop (folded_translated c.table (exception_list e) (whole_codons part))
        → (not known || not (eqb c.ce (length s))) ≡ false → eqb r ((c.ce - (c.cs - 1)) / 3) ≡ is_cut_short (reference_of s c e)
    unfolding is_cut_short size
    cut_short_lem r first h = rw (← is) (at known (eqb c.ce (length s)) h)
      where
        at : (a b : Bool) → (not a || not b) ≡ false
            → eqb r ((c.ce - (c.cs - 1)) / 3) ≡ (a && b && eqb (count (byte "*") (reference_protein (reference_of s c e))) 0)
        at false b h = cc
        at true false h = cc
        at true true h = stopless r first

-- 6 or 28, by the end
module _ (r : Reference) (t : Bool) where
  at-stop : r.end ≡ 0 → first_number ((eqb r.end at_stop && not t) ↯ 6 ∷ (not (eqb r.end at_stop) && not (is_cut_short r)) ↯ 28 ∷ []) ≡ (if t then 0 else 6)
  unfolding first_number
  at-stop h = rw (eq-eqb r.end 0 h) (by t)
    where
      by : (t : Bool) → ◌≡◌ {A = ℕ} (if not t then 6 else 0) (if t then 0 else 6)
      by true = refl
      by false = refl

  elsewhere : (r.end ≡ 0 → ⊥) → first_number ((eqb r.end at_stop && not (ends_in_stop r)) ↯ 6 ∷ (not (eqb r.end at_stop) && not t) ↯ 28 ∷ []) ≡ (if t then 0 else 28)
  unfolding first_number
  elsewhere h = rw (ne_eqb r.end 0 h) (by t)
    where
      by : (t : Bool) → ◌≡◌ {A = ℕ} (if not t then 28 else 0) (if t then 0 else 28)
      by true = refl
      by false = refl

  pub end-six : r.end ≡ 0 → t ≡ ends_in_stop r → (n : ℕ) → (if t then 0 else 6) ≡ n → n ≡ end_refusal r
  unfolding end_refusal reference_tests
  end-six h is n k = sym (rw (← is) (at-stop h) ∙ k)

  pub end-twenty-eight : (r.end ≡ 0 → ⊥) → t ≡ is_cut_short r → (n : ℕ) → (if t then 0 else 28) ≡ n → n ≡ end_refusal r
  unfolding end_refusal reference_tests
  end-twenty-eight h is n k = sym (rw (← is) (elsewhere h) ∙ k)
