-- Laws of the tests of a reference: 1 to 5, and what they are by the code's tests.
-- Assumes nothing.
use Rattle.std.specs.Prelude.{if◌then◌else◌}
use mathlib.Core.Path.{◌≡◌, refl}
use mathlib.Core.Bool.{Bool, true, false, ◌&&◌, ◌||◌, not}
use mathlib.Core.List.{List}
use Prim.Native.Nat.{ℕ, ◌-◌, ◌/◌, ◌≤◌}
use lib.Dec.{leb, ltb}
use lib.ListN.{length}
use Rattle.rules.specs.declared.Cds.{Cds}
use Rattle.rules.specs.declared.Exceptions.{Exceptions}
use Rattle.rules.specs.Bytes.{all, first_number}
use Rattle.rules.specs.Letters.{is_letter}
use Rattle.rules.specs.Codons.{is_table}
use Rattle.rules.specs.Translation.{exception_list}
use Rattle.rules.specs.Reference.{size, is_size, cds_size, are_bounds, codons, are_rising, fit_exceptions, reference_tests}
use Rattle.rules.specs.Views.{bare, reference_of}
use Rattle.bounds.proofs.Testing.{above_is, size_of}
use Rattle.reference.specs.Known.{early_refusal}

pub size_test : (longest n : ℕ) → not (is_size longest n) ≡ (ltb n 1 || ltb longest n)
unfolding is_size
size_test longest n = rw (above_is 1 n, above_is n longest) (by (ltb n 1) (ltb longest n))
  where
    by : (x y : Bool) → not (not x && not y) ≡ (x || y)
    by true y = refl
    by false true = refl
    by false false = refl

pub table_test : (table : ℕ) → not (is_table table) ≡ ltb 2 table
unfolding is_table
table_test table = rw (above_is table 2) (by (ltb 2 table))
  where
    by : (x : Bool) → not (not x) ≡ x
    by true = refl
    by false = refl

-- 1 to 5 by the code's tests
abbrev one_to_five : Bool → Bool → Bool → Bool → Bool → ℕ
one_to_five a b c d f = if a then 1 else if b then 2 else if c then 3 else if d then 4 else if f then 5 else 0

pub early_by : (longest : ℕ) (s : List ℕ) (c : Cds) (e : Exceptions) → early_refusal longest (reference_of s c e)
    ≡ one_to_five (ltb (length s) 1 || ltb longest (length s)) (not (all is_letter s)) (not (are_bounds (bare s c))) (ltb 2 c.table) (not (fit_exceptions (reference_of s c e)))
unfolding early_refusal reference_tests first_number are_bounds size cds_size
early_by longest s c e = rw (size_test longest (length s), table_test c.table)

pub fits_are : (s : List ℕ) (c : Cds) (e : Exceptions) → 1 ≤ c.cs
    → (leb (length (exception_list e)) 16 && are_rising 0 ((c.ce - (c.cs - 1)) / 3) (exception_list e)) ≡ fit_exceptions (reference_of s c e)
unfolding fit_exceptions codons cds_size
fits_are s c e h = rw (size_of c.cs c.ce h)
