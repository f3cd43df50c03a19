-- Laws of the tests of a reference's numbers: its bounds, and its exceptions one at a time.
-- Assumes nothing.
use mathlib.Core.Path.{◌≡◌, refl, sym, ◌∙◌}
use mathlib.Core.Bool.{Bool, true, false, ◌&&◌, ◌||◌, not}
use mathlib.Core.List.{List}
use Prim.Native.Nat.{ℕ, ◌+◌, ◌-◌, ◌≤◌, ◌<◌}
use native.Mathlib.Numerals.{add-one}
use native.Mathlib.Omega.{arith}
use lib.Dec.{leb, ltb}
use lib.ListN.{length, take, drop, get_or, drop_of_length-le}
use lib.Seq.{drop-cons}
use borrow.Author.Tests.{ltb-true, ltb-false, le-leb, lt-leb}
use Rattle.rules.specs.declared.Cds.{Cds}
use Rattle.rules.specs.declared.Exception.{Exception}
use Rattle.rules.specs.declared.Exceptions.{Exceptions}
use Rattle.rules.specs.Translation.{no_exception, exception_list}
use Rattle.rules.specs.Reference.{size, cds_size, fits_end, are_bounds, are_rising}
use Rattle.rules.specs.Views.{bare}
use Rattle.rules.proofs.Tests.{or_left, or_right}
use Rattle.rules.proofs.Translation.{length_exceptions, first_exceptions}
use Rattle.bounds.specs.Exceptions.{is_exception}

-- one test by the other
pub above_is : (a b : ℕ) → leb a b ≡ not (ltb b a)
above_is a b = by (ltb b a) refl
  where
    by : (t : Bool) → ltb b a ≡ t → leb a b ≡ not t
    by true h = lt-leb a b (ltb-true b a h)
    by false h = le-leb a b (ltb-false b a h)

-- ce-cs+1, without a sum
pub size_of : (cs ce : ℕ) → 1 ≤ cs → ce - (cs - 1) ≡ ce + 1 - cs
size_of cs ce h = omega arith

module _ (s : List ℕ) (c : Cds) where
  pub no-bounds : (ltb c.cs 1 || ltb c.ce c.cs || ltb (length s) c.ce) ≡ true → false ≡ are_bounds (bare s c)
  unfolding are_bounds size
  no-bounds h =
      rw (above_is 1 c.cs, above_is c.cs c.ce, above_is c.ce (length s))
      (by (ltb c.cs 1) (ltb c.ce c.cs) (ltb (length s) c.ce) (fits_end c.end (cds_size (bare s c))) (leb 6 (cds_size (bare s c))) h)
    where
      by : (x y z p q : Bool) → (x || y || z) ≡ true → false ≡ (not x && not y && not z && p && q)
      by true y z p q h = refl
      by false true z p q h = refl
      by false false true p q h = refl
      by false false false p q h = cc

  pub bounds-are : (ltb c.cs 1 || ltb c.ce c.cs || ltb (length s) c.ce) ≡ false
      → (fits_end c.end (c.ce - (c.cs - 1)) && leb 6 (c.ce - (c.cs - 1))) ≡ are_bounds (bare s c)
  unfolding are_bounds size cds_size
  bounds-are h =
      let some : 1 ≤ c.cs = ltb-false c.cs 1 (or_left (ltb c.cs 1) (ltb c.ce c.cs) (or_left (ltb c.cs 1 || ltb c.ce c.cs) (ltb (length s) c.ce) h)) in
      rw (above_is 1 c.cs, above_is c.cs c.ce, above_is c.ce (length s), size_of c.cs c.ce some)
      (by (ltb c.cs 1) (ltb c.ce c.cs) (ltb (length s) c.ce) (fits_end c.end (c.ce + 1 - c.cs)) (leb 6 (c.ce + 1 - c.cs)) h)
    where
      by : (x y z p q : Bool) → (x || y || z) ≡ false → (p && q) ≡ (not x && not y && not z && p && q)
      by true y z p q h = cc
      by false true z p q h = cc
      by false false true p q h = cc
      by false false false p q h = refl

-- what the bounds' first test leaves
pub bounds_left : (cs ce L : ℕ) → (ltb cs 1 || ltb ce cs || ltb L ce) ≡ false → (1 ≤ cs) × (cs ≤ ce) × (ce ≤ L)
bounds_left cs ce L h =
    let two = or_left (ltb cs 1 || ltb ce cs) (ltb L ce) h in (
      ltb-false cs 1 (or_left (ltb cs 1) (ltb ce cs) two),
      ltb-false ce cs (or_right (ltb cs 1) (ltb ce cs) two),
      ltb-false L ce (or_right (ltb cs 1 || ltb ce cs) (ltb L ce) h),
    )

-- the exceptions behind the first i
module _ (last most : ℕ) (es : List Exception) (i : ℕ) where
  module _ (h : i < length es) where
    rising-turn : are_rising last most (drop i es) ≡ (is_exception last most (get_or es i no_exception) && are_rising (get_or es i no_exception).codon most (drop (i + 1) es))
    unfolding are_rising
    rising-turn = rw (drop-cons es i no_exception h, add-one)

    pub rising-on : is_exception last most (get_or es i no_exception) ≡ true → are_rising (get_or es i no_exception).codon most (drop (i + 1) es) ≡ are_rising last most (drop i es)
    rising-on q = sym (rising-turn ∙ rw q)

    pub rising-off : is_exception last most (get_or es i no_exception) ≡ false → are_rising last most (drop i es) ≡ false
    rising-off q = rising-turn ∙ rw q

  pub rising-end : length es ≤ i → are_rising last most (drop i es) ≡ true
  unfolding are_rising
  rising-end h = rw (drop_of_length-le es {i = i} h)

module _ (e : Exceptions) (most : ℕ) where
  pub too_many : 16 < e.count → false ≡ (leb (length (exception_list e)) 16 && are_rising 0 most (exception_list e))
  too_many h = rw (length_exceptions e, lt-leb e.count 16 h)

  pub few-rising : length e.all ≡ 16 → e.count ≤ 16
      → (leb (length (exception_list e)) 16 && are_rising 0 most (exception_list e)) ≡ are_rising 0 most (take e.count e.all)
  few-rising n h = rw (length_exceptions e, le-leb e.count 16 h, first_exceptions e n h)
