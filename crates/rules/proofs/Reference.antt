-- What is so of a reference that isn't refused.
-- Assumes nothing.
use mathlib.Core.Path.{◌≡◌, refl, sym, ap, ◌∙◌}
use mathlib.Core.Bool.{true, false, ◌&&◌, not}
use mathlib.Core.List.{List, [], ◌∷◌}
use Prim.Native.Nat.{ℕ, zero, suc, ◌<◌, ◌-◌, ◌/◌, ◌%◌, ◌≤◌}
use native.Mathlib.Omega.{arith}
use lib.Dec.{eqb, leb, ltb}
use lib.ListN.{length, drop, get_or, length-drop}
use lib.Seq.{length-take-le}
use borrow.Author.Tests.{leb-true, ltb-true, eqb-true, not-false, lt-ltb, le-leb, eq-eqb}
use Rattle.rules.specs.declared.Exception.{Exception}
use Rattle.rules.specs.Bytes.{byte, all, count}
use Rattle.rules.specs.Letters.{is_letter}
use Rattle.rules.specs.Codons.{is_table}
use Rattle.rules.specs.Translation.{no_exception, residue_count, is_residue}
use Rattle.rules.specs.Reference.{Reference, at_stop, is_short_end, size, is_size, cds_size, fits_end, are_bounds, cds, codons, are_rising, fit_exceptions, reference_protein, ends_in_stop, is_cut_short, reference_tests}
use Rattle.rules.specs.Refusal.{reference_refusal}
use Rattle.rules.proofs.Tests.{and_left, and_right, and_implies, first_clear}
use Rattle.rules.proofs.Translation.{length-translated}

-- 1 <= cs <= ce <= L; ce-cs+1 fits the end and is at least 6
pub record Bounds (r : Reference) : Type 0 where
  pub first : 1 ≤ r.cs
  pub rising : r.cs ≤ r.ce
  pub inside : r.ce ≤ size r
  pub ends : fits_end r.end (cds_size r) ≡ true
  pub long : 6 ≤ cds_size r

-- none of 1 to 5, 6 and 28 applies
pub record Accepted (longest : ℕ) (r : Reference) : Type 0 where
  pub some : 1 ≤ size r
  pub fits : size r ≤ longest
  pub letters : all is_letter r.letters ≡ true
  pub bounds : Bounds r
  pub table : r.table ≤ 2
  pub few : length r.exceptions ≤ 16
  pub exceptions : are_rising 0 (codons r) r.exceptions ≡ true
  pub stop : r.end ≡ at_stop → get_or (reference_protein r) (codons r - 1) 0 ≡ byte "*"
  pub cut : eqb r.end at_stop ≡ false → is_cut_short r ≡ true

pub bounds_of : (r : Reference) → are_bounds r ≡ true → Bounds r
unfolding are_bounds
bounds_of r h =
    let first = leb 1 r.cs in
    let rising = leb r.cs r.ce in
    let inside = leb r.ce (size r) in
    let ends = fits_end r.end (cds_size r) in
    let long = leb 6 (cds_size r) in
    let h₄ = and_left (first && rising && inside && ends) long h in
    let h₃ = and_left (first && rising && inside) ends h₄ in
    let h₂ = and_left (first && rising) inside h₃ in
    record {
      first = leb-true 1 r.cs (and_left first rising h₂);
      rising = leb-true r.cs r.ce (and_right first rising h₂);
      inside = leb-true r.ce (size r) (and_right (first && rising) inside h₃);
      ends = and_right (first && rising && inside) ends h₄;
      long = leb-true 6 (cds_size r) (and_right (first && rising && inside && ends) long h);
    }

pub accepted : (longest : ℕ) (r : Reference) → reference_refusal longest r ≡ 0 → Accepted longest r
unfolding reference_refusal reference_tests is_size is_table fit_exceptions ends_in_stop
accepted longest r h =
    let one = first_clear (not (is_size longest (size r))) 0 _ h in
    let two = first_clear (not (all is_letter r.letters)) 1 _ one.1 in
    let three = first_clear (not (are_bounds r)) 2 _ two.1 in
    let four = first_clear (not (is_table r.table)) 3 _ three.1 in
    let five = first_clear (not (fit_exceptions r)) 4 _ four.1 in
    let six = first_clear (eqb r.end at_stop && not (ends_in_stop r)) 5 _ five.1 in
    let behind = first_clear (not (eqb r.end at_stop) && not (is_cut_short r)) 27 _ six.1 in
    let few = leb (length r.exceptions) 16 in
    let rising = are_rising 0 (codons r) r.exceptions in
    let sized = not-false (is_size longest (size r)) one.0 in
    record {
      some = leb-true 1 (size r) (and_left (leb 1 (size r)) (leb (size r) longest) sized);
      fits = leb-true (size r) longest (and_right (leb 1 (size r)) (leb (size r) longest) sized);
      letters = not-false (all is_letter r.letters) two.0;
      bounds = bounds_of r (not-false (are_bounds r) three.0);
      table = leb-true r.table 2 (not-false (is_table r.table) four.0);
      few = leb-true (length r.exceptions) 16 (and_left few rising (not-false (fit_exceptions r) five.0));
      exceptions = and_right few rising (not-false (fit_exceptions r) five.0);
      stop = λ k. eqb-true (get_or (reference_protein r) (codons r - 1) 0) (byte "*") (not-false (ends_in_stop r) (and_implies _ _ six.0 (eq-eqb r.end at_stop k)));
      cut = λ k. not-false (is_cut_short r) (and_implies _ _ behind.0 (ap not k));
    }

-- R has a residue for each CDS codon
pub length-cds : (r : Reference) → Bounds r → length (cds r) ≡ cds_size r
unfolding cds cds_size size
length-cds r b = length-take-le (cds_size r) (drop (r.cs - 1) r.letters) (rw length-drop (omega arith))

pub length_protein : (r : Reference) → Bounds r → length (reference_protein r) ≡ residue_count (cds_size r)
unfolding reference_protein
length_protein r b = length-translated r.table r.exceptions (cds r) ∙ ap residue_count (length-cds r b)

-- a CDS that ends at a stop has whole codons
pub whole-codons : (r : Reference) → Bounds r → r.end ≡ at_stop → cds_size r % 3 ≡ 0
unfolding fits_end
whole-codons r b h = eqb-true (cds_size r % 3) 0 (sym (rw h refl) ∙ b.ends)

-- R has a residue for each CDS codon and X for the rest, at least two; the last is `*` where the CDS ends at a stop, else none is
pub record ReferenceProtein (r : Reference) : Type 0 where
  pub counted : length (reference_protein r) ≡ residue_count (cds_size r)
  pub two : 2 ≤ length (reference_protein r)
  pub last : r.end ≡ at_stop → get_or (reference_protein r) (length (reference_protein r) - 1) 0 ≡ byte "*"
  pub none : eqb r.end at_stop ≡ false → count (byte "*") (reference_protein r) ≡ 0

pub protein_read : (longest : ℕ) (r : Reference) → reference_refusal longest r ≡ 0 → ReferenceProtein r
unfolding residue_count codons is_cut_short
protein_read longest r h =
    let a = accepted longest r h in
    let counted = length_protein r a.bounds in
    let whole : r.end ≡ at_stop → length (reference_protein r) ≡ cds_size r / 3 = λ k. omega (arith, counted, whole-codons r a.bounds k) in
    record {
      counted = counted;
      two = omega (arith, a.bounds.long);
      last = λ k. ap (λ (n : ℕ). get_or (reference_protein r) (n - 1) 0) (whole k) ∙ a.stop k;
      none = λ k. eqb-true (count (byte "*") (reference_protein r)) 0 (and_right (is_short_end r.end && eqb r.ce (size r)) _ (a.cut k));
    }

-- a codon number above `last` and at most `most`, and a residue A to Z or `*`
pub record Excepts (last most : ℕ) (e : Exception) : Type 0 where
  pub above : last < e.codon
  pub inside : e.codon ≤ most
  pub residue : is_residue e.residue ≡ true

-- the first of strictly rising exceptions, and the others
pub rising_cons : (last most : ℕ) (e : Exception) (es : List Exception) → are_rising last most (e ∷ es) ≡ true → Excepts last most e × (are_rising e.codon most es ≡ true)
unfolding are_rising
rising_cons last most e es h =
    let above = ltb last e.codon in
    let inside = leb e.codon most in
    let residue = is_residue e.residue in
    let rest = are_rising e.codon most es in
    let three = and_left (above && inside && residue) rest h in
    let two = and_left (above && inside) residue three in (
      record {
        above = ltb-true last e.codon (and_left above inside two);
        inside = leb-true e.codon most (and_right above inside two);
        residue = and_right (above && inside) residue three;
      },
      and_right (above && inside && residue) rest h,
    )

pub rising_of : (last most : ℕ) (e : Exception) (es : List Exception) → Excepts last most e → are_rising e.codon most es ≡ true → are_rising last most (e ∷ es) ≡ true
unfolding are_rising
rising_of last most e es x h = rw (lt-ltb last e.codon x.above, le-leb e.codon most x.inside, x.residue) h

-- any of them
pub rising_at : (last most : ℕ) (es : List Exception) (i : ℕ) → are_rising last most es ≡ true → i < length es → Excepts last most (get_or es i no_exception)
rising_at last most [] i h k = absurd (omega arith)
rising_at last most (e ∷ es) zero h k = (rising_cons last most e es h).0
rising_at last most (e ∷ es) (suc i) h k =
    let this = rising_cons last most e es h in
    let x = rising_at e.codon most es i this.1 (omega arith) in
    record { above = omega (arith, this.0.above, x.above); inside = x.inside; residue = x.residue }
