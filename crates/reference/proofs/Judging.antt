-- Laws of what the tests leave: a refusal, or a reference that can be read; and 6 or 28, where none of 1 to 5 applies.
-- Assumes nothing.
use Rattle.std.specs.Prelude.{Result as Returned}
use Rattle.std.specs.Result.{IsErrAnd}
use Rattle.std.proofs.lemmas.Result.{err_from_is_err_and}
use mathlib.Core.Path.{◌≡◌, refl, sym, ap, ◌∙◌}
use mathlib.Core.Bool.{Bool, true, not}
use mathlib.Core.List.{List}
use Prim.Native.Nat.{ℕ, zero, suc, ◌≤◌, ◌<◌}
use native.Mathlib.Omega.{arith}
use lib.Dec.{leb, ltb}
use lib.ListN.{length, take, drop, take-append-drop}
use borrow.Author.Tests.{leb-true, ltb-true, not-false}
use Rattle.rules.specs.declared.Cds.{Cds}
use Rattle.rules.specs.declared.Exceptions.{Exceptions}
use Rattle.rules.specs.Bytes.{all, first_number, given, refused, unless}
use Rattle.rules.specs.Letters.{is_letter}
use Rattle.rules.specs.Codons.{is_table}
use Rattle.rules.specs.Translation.{residue_count}
use Rattle.rules.specs.Reference.{size, is_size, cds_size, are_bounds, fit_exceptions, reference_tests}
use Rattle.rules.specs.Refusal.{reference_refusal}
use Rattle.rules.specs.Refusals.{refusal_number, refusal_of, told}
use Rattle.rules.specs.declared.Refusal.{Refusal}
use Rattle.rules.specs.Views.{bare, reference_of}
use Rattle.rules.proofs.Tests.{and_right, first_clear, first_behind, first_before}
use Rattle.rules.proofs.Reference.{bounds_of}
pub use Rattle.rules.proofs.Told.{number_some}
use Rattle.letters.specs.Sets.{is_base}
use Rattle.reference.specs.Known.{early_refusal, end_refusal, judged_of, HasRoom, Readable}

-- the exit of a `?`
module _ {A : Type 0} (x : Returned A Refusal) (r : Refusal) (h : IsErrAnd x (λ y. y ≡ r)) where
  pub exit-told : told x ≡ refused (refusal_number r)
  exit-told = let p = err_from_is_err_and x h in rw (p.1, p.2)

  pub exit_refusal : refusal_of x ≡ refusal_number r
  exit_refusal = let p = err_from_is_err_and x h in rw (p.1, p.2)

-- a value, unless a number refuses it
module _ {A : Type 0} where
  pub was-refused : (n m : ℕ) (a : A) → refused m ≡ unless n a → (n ≡ m) × (m ≡ 0 → ⊥)
  unfolding unless
  was-refused zero m a h = let z : ◌≡◌ {A = ℕ} 0 1 = cc in absurd (omega arith)
  was-refused (suc n) m a h = let same : suc n ≡ m = cc in (same, λ z. omega arith)

  pub was-given : (n : ℕ) (a x : A) → given x ≡ unless n a → (n ≡ 0) × (x ≡ a)
  unfolding unless
  was-given zero a x h = (refl, cc)
  was-given (suc n) a x h = let z : ◌≡◌ {A = ℕ} 0 1 = cc in absurd (omega arith)

  pub refused_some : (n : ℕ) (a : A) → (n ≡ 0 → ⊥) → refused n ≡ unless n a
  unfolding unless
  refused_some zero a h = absurd (h refl)
  refused_some (suc n) a h = refl

  -- the number of a call's refusal
  pub told-refused : (r : Refusal) (n : ℕ) (a : A) → refusal_number r ≡ n → refused (refusal_number r) ≡ unless n a
  told-refused r n a is = rw is (refused_some n a (λ z. number_some r (is ∙ z)))

module _ (longest : ℕ) (s : List ℕ) (c : Cds) (e : Exceptions) where
  -- what 1 to 5 leave
  pub readable : early_refusal longest (reference_of s c e) ≡ 0 → longest < 4294967296 → Readable s c e
  unfolding early_refusal reference_tests is_size is_table size cds_size
  readable h small =
      let r = reference_of s c e in
      let one = first_clear (not (is_size longest (size r))) 0 _ h in
      let two = first_clear (not (all is_letter r.letters)) 1 _ one.1 in
      let three = first_clear (not (are_bounds r)) 2 _ two.1 in
      let four = first_clear (not (is_table r.table)) 3 _ three.1 in
      let five = first_clear (not (fit_exceptions r)) 4 _ four.1 in
      let fits : length s ≤ longest = leb-true (length s) longest (and_right (leb 1 (length s)) (leb (length s) longest) (not-false (is_size longest (length s)) one.0)) in
      let table : c.table ≤ 2 = leb-true c.table 2 (not-false (is_table c.table) four.0) in
      record {
        sound =
            record {
              bounds = bounds_of r (not-false (are_bounds r) three.0);
              short = omega arith;
              table = omega arith;
              letters = not-false (all is_letter s) two.0;
            };
        exceptions = not-false (fit_exceptions r) five.0;
      }

  -- R fits where the letters' residues do
  pub protein-room : (room : ℕ) → early_refusal longest (reference_of s c e) ≡ 0 → longest < 4294967296 → HasRoom longest s room → residue_count (cds_size (bare s c)) ≤ room
  unfolding early_refusal reference_tests is_size size cds_size residue_count
  protein-room room h small fits =
      let one = first_clear (not (is_size longest (length s))) 0 _ h in
      let short : length s ≤ longest = leb-true (length s) longest (and_right (leb 1 (length s)) (leb (length s) longest) (not-false (is_size longest (length s)) one.0)) in
      let x = (readable h small).sound in
      omega (arith, fits short, x.bounds.first, x.bounds.inside)

  early-refused : (n : ℕ) → early_refusal longest (reference_of s c e) ≡ suc n → reference_refusal longest (reference_of s c e) ≡ suc n
  unfolding early_refusal reference_refusal
  early-refused n h =
      let tests = reference_tests longest (reference_of s c e) in
      ap first_number (sym (take-append-drop 5 tests)) ∙ first_before (take 5 tests) (drop 5 tests) n h

  early-passed : early_refusal longest (reference_of s c e) ≡ 0 → reference_refusal longest (reference_of s c e) ≡ end_refusal (reference_of s c e)
  unfolding early_refusal end_refusal reference_refusal reference_tests all
  early-passed h =
      let tests = reference_tests longest (reference_of s c e) in
      ap first_number (sym (take-append-drop 5 tests)) ∙ first_behind (take 5 tests) (drop 5 tests) refl h

  -- one of 1 to 5 applies
  pub judged-early : (r : Refusal) → early_refusal longest (reference_of s c e) ≡ refusal_number r → refused (refusal_number r) ≡ judged_of longest s c e
  unfolding judged_of unless
  judged-early r is = by (refusal_number r) is (told-refused r (refusal_number r) (all is_base s) refl)
    where
      by : (n : ℕ) → early_refusal longest (reference_of s c e) ≡ n → refused n ≡ unless n (all is_base s) → refused n ≡ unless (reference_refusal longest (reference_of s c e)) (all is_base s)
      by zero is some = let z : ◌≡◌ {A = ℕ} 0 1 = cc in absurd (omega arith)
      by (suc n) is some = rw (early-refused n is)

  -- none does
  module _ (none : early_refusal longest (reference_of s c e) ≡ 0) where
    pub judged-clear : (plain : Bool) → plain ≡ all is_base s → 0 ≡ end_refusal (reference_of s c e) → given plain ≡ judged_of longest s c e
    unfolding judged_of unless
    judged-clear plain p is = rw (early-passed none, ← is, p)

    pub judged-late : (r : Refusal) → refusal_number r ≡ end_refusal (reference_of s c e) → refused (refusal_number r) ≡ judged_of longest s c e
    unfolding judged_of
    judged-late r is = rw (early-passed none) (told-refused r (end_refusal (reference_of s c e)) (all is_base s) is)

  -- a reference that isn't refused passes 1 to 5
  pub accepted-early : reference_refusal longest (reference_of s c e) ≡ 0 → early_refusal longest (reference_of s c e) ≡ 0
  accepted-early h = by (early_refusal longest (reference_of s c e)) refl
    where
      by : (n : ℕ) → early_refusal longest (reference_of s c e) ≡ n → n ≡ 0
      by zero q = refl
      by (suc n) q = absurd (omega (arith, early-refused n q))
