-- Laws of R, read into a buffer, of a reference that passes 1 to 5.
-- Assumes nothing.
use mathlib.Core.Path.{◌≡◌, sym, ap, ◌∙◌}
use mathlib.Core.Bool.{Bool, true}
use mathlib.Core.List.{List}
use Prim.Native.Nat.{ℕ, ◌-◌, ◌/◌, ◌≤◌}
use native.Mathlib.Omega.{arith}
use lib.Dec.{leb, ltb}
use lib.ListN.{length, take, drop}
use borrow.Author.Tests.{leb-true}
use Rattle.rules.specs.declared.Form.{Form}
use Rattle.rules.specs.declared.Cds.{Cds}
use Rattle.rules.specs.declared.Exceptions.{Exceptions}
use Rattle.rules.specs.Bytes.{byte, all, count, over}
use Rattle.rules.specs.Letters.{is_letter}
use Rattle.rules.specs.Translation.{exception_list, residue_count, fold_to_letters, folded_translated}
use Rattle.rules.specs.Reference.{cds_size, cds, codons, are_rising, fit_exceptions, reference_protein}
use Rattle.rules.specs.Views.{bare, reference_of}
use Rattle.rules.proofs.Tests.{and_left, all_take, all_drop}
use Rattle.rules.proofs.Over.{length_over, read_back}
use Rattle.rules.proofs.Translation.{length_exceptions}
use Rattle.rules.proofs.Reference.{length-cds, length_protein}
use Rattle.letters.specs.Sets.{is_base}
use Rattle.places.specs.Places.{fold_to_bases}
use Rattle.places.specs.Looked.{Reads, Walks}
use Rattle.places.proofs.Strict.{strict-letters, strict-translated, whole_bases, bases_fold}
use Rattle.reference.specs.declared.Known.{Known}
use Rattle.reference.specs.Known.{known_of, Readable}
use Rattle.bounds.proofs.Testing.{size_of}

-- R of a reference that passes 1 to 5
module _ (s : List ℕ) (c : Cds) (e : Exceptions) (x : Readable s c e) where
  pub few-exceptions : e.count ≤ 16
  unfolding fit_exceptions
  few-exceptions =
      let few = leb-true (length (exception_list e)) 16 (and_left (leb (length (exception_list e)) 16) (are_rising 0 (codons (reference_of s c e)) (exception_list e)) x.exceptions) in
      omega (arith, length_exceptions e)

  -- the part that is translated
  pub cds-part : take (c.ce - (c.cs - 1)) (drop (c.cs - 1) s) ≡ cds (reference_of s c e)
  unfolding cds cds_size
  cds-part = ap (λ (n : ℕ). take n (drop (c.cs - 1) s)) (size_of c.cs c.ce x.sound.bounds.first)

  pub codons-are : (c.ce - (c.cs - 1)) / 3 ≡ codons (reference_of s c e)
  unfolding codons cds_size
  codons-are = ap (λ (n : ℕ). n / 3) (size_of c.cs c.ce x.sound.bounds.first)

  residues-are : residue_count (c.ce - (c.cs - 1)) ≡ residue_count (cds_size (reference_of s c e))
  unfolding cds_size
  residues-are = ap residue_count (size_of c.cs c.ce x.sound.bounds.first)

  residues-read : residue_count (cds_size (reference_of s c e)) ≡ length (reference_protein (reference_of s c e))
  residues-read = sym (length_protein (reference_of s c e) x.sound.bounds)

  pub part-letters : all is_letter (take (c.ce - (c.cs - 1)) (drop (c.cs - 1) s)) ≡ true
  part-letters = all_take is_letter (c.ce - (c.cs - 1)) (drop (c.cs - 1) s) (all_drop is_letter (c.cs - 1) s x.sound.letters)

  part-readable : fold_to_letters (take (c.ce - (c.cs - 1)) (drop (c.cs - 1) s)) ≡ true
  part-readable = strict-letters (take (c.ce - (c.cs - 1)) (drop (c.cs - 1) s)) part-letters

  part-plain : (plain : Bool) → plain ≡ all is_base s → plain ≡ true → fold_to_bases (take (c.ce - (c.cs - 1)) (drop (c.cs - 1) s)) ≡ true
  part-plain plain is h =
      let part = take (c.ce - (c.cs - 1)) (drop (c.cs - 1) s) in
      whole_bases part (bases_fold part (all_take is_base (c.ce - (c.cs - 1)) (drop (c.cs - 1) s) (all_drop is_base (c.cs - 1) s (sym is ∙ h))))

  part_room : (room : ℕ) → residue_count (cds_size (bare s c)) ≤ room → residue_count (length (take (c.ce - (c.cs - 1)) (drop (c.cs - 1) s))) ≤ room
  unfolding cds_size
  part_room room h = rw (cds-part, length-cds (reference_of s c e) x.sound.bounds) h

  -- all that a reading of the part demands, and a translation
  pub part-reads : (plain : Bool) → plain ≡ all is_base s → Reads c.table plain (take (c.ce - (c.cs - 1)) (drop (c.cs - 1) s)) e
  part-reads plain is =
      record { code = x.sound.table; letters = part-readable; bases = part-plain plain is; few = few-exceptions }

  pub part-walks : (plain : Bool) (room : List ℕ) → plain ≡ all is_base s → residue_count (cds_size (bare s c)) ≤ length room
      → Walks c.table plain (take (c.ce - (c.cs - 1)) (drop (c.cs - 1) s)) e room
  part-walks plain room is h = record { reads = part-reads plain is; room = part_room (length room) h }

  -- R is written
  module _ (old out : List ℕ) (written : out ≡ over (folded_translated c.table (exception_list e) (take (c.ce - (c.cs - 1)) (drop (c.cs - 1) s))) old) where
    pub holds-protein : out ≡ over (reference_protein (reference_of s c e)) old
    unfolding reference_protein
    holds-protein = written ∙ rw (strict-translated (take (c.ce - (c.cs - 1)) (drop (c.cs - 1) s)) part-letters c.table (exception_list e), cds-part)

    pub residues-fit : (n : ℕ) → n ≡ residue_count (c.ce - (c.cs - 1)) → residue_count (cds_size (bare s c)) ≤ length old → n ≤ length out
    unfolding cds_size
    residues-fit n is h =
        let long = ap length holds-protein ∙ length_over (reference_protein (reference_of s c e)) old (omega (arith, residues-read)) in
        omega (arith, residues-are)

    pub read_known : (f : Form) (n : ℕ) → n ≡ residue_count (c.ce - (c.cs - 1)) → (plain several : Bool) → plain ≡ all is_base s → several ≡ ltb 1 (count (byte "*") (take n out))
        → ◌≡◌ {A = Known} record { form = f; cds = c; residues = n; plain = plain; several = several } (known_of f s c e)
    unfolding known_of
    read_known f n is plain several p q =
        let back = read_back (reference_protein (reference_of s c e)) old out n (is ∙ residues-are ∙ residues-read) holds-protein in
        rw (p, q, back, is, residues-are)
