-- Codons of equal letters that are read alike are equal: those of a shared beginning of what is left of two CDS.
-- Assumes nothing.
use mathlib.Core.Path.{◌≡◌, refl, sym, ap, ◌∙◌}
use mathlib.Core.Bool.{true}
use mathlib.Core.List.{List}
use Prim.Native.Nat.{ℕ, ◌+◌, ◌-◌, ◌*◌, ◌/◌, ◌<◌, ◌≤◌}
use native.Mathlib.Omega.{arith}
use lib.ListN.{length, get_or, drop, length-take}
use lib.Seq.{get_or-take, get_or-drop}
use borrow.Author.Tests.{eq-eqb}
use Rattle.rules.specs.declared.Form.TheVariants.{Bytes}
use Rattle.rules.specs.Bytes.{same, all}
use Rattle.rules.specs.Letters.{is_letter}
use Rattle.rules.specs.Codons.{codon}
use Rattle.rules.specs.Translation.{excepted}
use Rattle.rules.specs.Trims.{common_prefix}
use Rattle.rules.specs.Reference.{Reference, size, cds, cds_size, reference_protein}
use Rattle.rules.specs.Altered.{part}
use Rattle.rules.specs.Packed.{letters_by}
use Rattle.rules.specs.Editions.{codon_letters, codon_residue, is_equal_codon}
use Rattle.rules.proofs.Trims.{cp_le_l, cp_le_r, cp_take}
use Rattle.rules.proofs.Reading.{residue_at_lem}
use Rattle.halves.proofs.Sizes.{bytes-is}
use Rattle.entries.specs.Entries.{base_at, entry_of}
use Rattle.entries.proofs.Entries.{no_exceptions_lem}
use Rattle.alike.specs.declared.Edition.{Edition}
use Rattle.alike.specs.Reading.{edition_of, Fits, Alike, AreEqual}
use Rattle.alike.proofs.Letters.{same-letters}
use Rattle.alike.proofs.Judged.{bounds-of-cds, letters-of-cds}

-- a letter of a CDS, among those from a place on
letter_left : (r : Reference) (from x : ℕ) → 1 ≤ r.cs → from + x < r.ce - (r.cs - 1)
    → get_or (cds r) (from + x) 0 ≡ get_or (part (r.cs - 1 + from) r.ce r.letters) x 0
unfolding cds cds_size part
letter_left r from x one h =
    let at : r.cs - 1 + (from + x) ≡ r.cs - 1 + from + x = omega arith in
    get_or-take (r.ce + 1 - r.cs) (drop (r.cs - 1) r.letters) (from + x) 0 (omega arith)
    ∙ get_or-drop (r.cs - 1) r.letters (from + x) 0
    ∙ ap (λ (k : ℕ). get_or r.letters k 0) at
    ∙ sym (get_or-take (r.ce - (r.cs - 1 + from)) (drop (r.cs - 1 + from) r.letters) x 0 (omega arith) ∙ get_or-drop (r.cs - 1 + from) r.letters x 0)

-- the letters of two CDS from a place on, of which p are shared
module _ (r s : Reference) (one : 1 ≤ r.cs) (also : 1 ≤ s.cs) (from p : ℕ) (inside : from < r.ce - (r.cs - 1)) (within : from < s.ce - (s.cs - 1))
    (shares : p ≤ common_prefix (part (r.cs - 1 + from) r.ce r.letters) (part (s.cs - 1 + from) s.ce s.letters)) where
  abbrev these : List ℕ
  these = part (r.cs - 1 + from) r.ce r.letters

  abbrev those : List ℕ
  those = part (s.cs - 1 + from) s.ce s.letters

  pub first-long : from + p ≤ r.ce - (r.cs - 1)
  unfolding part
  first-long =
      omega (arith, cp_le_l these those, length-take (r.ce - (r.cs - 1 + from)) (drop (r.cs - 1 + from) r.letters))

  second-long : from + p ≤ s.ce - (s.cs - 1)
  unfolding part
  second-long =
      omega (arith, cp_le_r these those, length-take (s.ce - (s.cs - 1 + from)) (drop (s.cs - 1 + from) s.letters))

  shared-letter : (x : ℕ) → from ≤ x → x < from + p → get_or (cds r) x 0 ≡ get_or (cds s) x 0
  shared-letter x h k =
      let at : from + (x - from) ≡ x = omega arith in
      ap (λ (i : ℕ). get_or (cds r) i 0) (sym at)
      ∙ letter_left r from (x - from) one (omega (arith, first-long))
      ∙ sym (get_or-take p these (x - from) 0 (omega arith))
      ∙ ap (λ (l : List ℕ). get_or l (x - from) 0) (cp_take p these those shares)
      ∙ get_or-take p those (x - from) 0 (omega arith)
      ∙ sym (letter_left s from (x - from) also (omega (arith, second-long)))
      ∙ ap (λ (i : ℕ). get_or (cds s) i 0) at

  module _ (good : all is_letter (cds r) ≡ true) (fine : all is_letter (cds s) ≡ true) (long : length (cds r) ≡ r.ce - (r.cs - 1)) (large : length (cds s) ≡ s.ce - (s.cs - 1))
      (table : r.table ≡ s.table) (exceptions : r.exceptions ≡ s.exceptions) (m : ℕ) (some : 1 ≤ m) (begins : from ≤ (m - 1) * 3) (ends : (m - 1) * 3 + 3 ≤ from + p) where
    letter₀ : get_or (cds r) ((m - 1) * 3) 0 ≡ get_or (cds s) ((m - 1) * 3) 0
    letter₀ = shared-letter ((m - 1) * 3) begins (omega arith)

    letter₁ : get_or (cds r) ((m - 1) * 3 + 1) 0 ≡ get_or (cds s) ((m - 1) * 3 + 1) 0
    letter₁ = shared-letter ((m - 1) * 3 + 1) (omega arith) (omega arith)

    letter₂ : get_or (cds r) ((m - 1) * 3 + 2) 0 ≡ get_or (cds s) ((m - 1) * 3 + 2) 0
    letter₂ = shared-letter ((m - 1) * 3 + 2) (omega arith) (omega arith)

    same-entry : entry_of r m ≡ entry_of s m
    unfolding entry_of base_at
    same-entry = rw (letter₀, letter₁, letter₂)

    same-residue : codon_residue r m ≡ codon_residue s m
    unfolding codon_residue reference_protein
    same-residue =
        let read : excepted r.exceptions (m - 1 + 1) (codon r.table (get_or (cds r) ((m - 1) * 3) 0) (get_or (cds r) ((m - 1) * 3 + 1) 0) (get_or (cds r) ((m - 1) * 3 + 2) 0))
        ≡ excepted s.exceptions (m - 1 + 1) (codon s.table (get_or (cds s) ((m - 1) * 3) 0) (get_or (cds s) ((m - 1) * 3 + 1) 0) (get_or (cds s) ((m - 1) * 3 + 2) 0)) = rw (letter₀, letter₁, letter₂, table, exceptions) in
        residue_at_lem r.table r.exceptions (cds r) (m - 1) (omega (arith, first-long, long))
        ∙ read
        ∙ sym (residue_at_lem s.table s.exceptions (cds s) (m - 1) (omega (arith, second-long, large)))

    pub equal-codon : is_equal_codon r s m ≡ true
    unfolding is_equal_codon
    equal-codon =
        let letters : same (codon_letters r m) (codon_letters s m) ≡ true = same-letters r s m good fine some ∙ eq-eqb (entry_of r m) (entry_of s m) same-entry in
        rw (letters, same-residue) (eq-eqb (codon_residue s m) (codon_residue s m) refl)

-- none is equal always
pub none_equal : (r s : Reference) (n : ℕ) → AreEqual r s n 0
unfolding AreEqual
none_equal r s n m h k = absurd (omega arith)

-- an edition with a byte a letter
module _ (s : List ℕ) (x : Edition) (fits : Fits s x) (bytes : x.form ≡ Bytes) where
  pub ends-within : x.cds.ce ≤ length s
  unfolding size
  ends-within = rw (bytes-is x.form s bytes) at fits.readable.sound.bounds.inside

  pub are-letters : all is_letter s ≡ true
  are-letters = rw (bytes-is x.form s bytes) at fits.readable.sound.letters

-- the codons from n on of two editions
module _ (first second : List ℕ) (r s : Edition) (x : Fits first r) (y : Fits second s) (alike : Alike r s) (n p : ℕ) (one : 1 ≤ n)
    (inside : (n - 1) * 3 < r.cds.ce - (r.cds.cs - 1)) (within : (n - 1) * 3 < s.cds.ce - (s.cds.cs - 1))
    (is : p ≡ common_prefix (part (r.cds.cs - 1 + (n - 1) * 3) r.cds.ce first) (part (s.cds.cs - 1 + (n - 1) * 3) s.cds.ce second)) where
  shares : p ≤ common_prefix (part (r.cds.cs - 1 + (n - 1) * 3) r.cds.ce (letters_by r.form first)) (part (s.cds.cs - 1 + (n - 1) * 3) s.cds.ce (letters_by s.form second))
  shares = rw (bytes-is r.form first alike.bytes, bytes-is s.form second alike.also) (omega (arith, is))

  pub equal-run : AreEqual (edition_of first r) (edition_of second s) n (p / 3)
  unfolding AreEqual
  equal-run m h k =
      equal-codon (edition_of first r) (edition_of second s) x.readable.sound.bounds.first y.readable.sound.bounds.first ((n - 1) * 3) p inside within shares
      (letters-of-cds first r x) (letters-of-cds second s y) (bounds-of-cds first r x) (bounds-of-cds second s y)
      alike.table (no_exceptions_lem r.e alike.none ∙ sym (no_exceptions_lem s.e alike.neither))
      m (omega arith) (omega arith) (omega arith)

  pub run_small : p / 3 ≤ 65536
  unfolding size
  run_small =
      omega (arith, first-long (edition_of first r) (edition_of second s) x.readable.sound.bounds.first y.readable.sound.bounds.first ((n - 1) * 3) p inside within shares, x.readable.sound.bounds.first, x.readable.sound.bounds.inside, x.short)
