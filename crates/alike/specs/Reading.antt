-- An edition as the sections' reference, and codons that are equal in two.
use Rattle.std.specs.Prelude.{ℕ, ◌+◌, ◌<◌, ◌≤◌, ◌≡◌, true, List, length}
use Rattle.rules.specs.declared.Form.TheVariants.{Bytes}
use Rattle.rules.specs.Reference.{Reference}
use Rattle.rules.specs.Packed.{letters_by}
use Rattle.rules.specs.Views.{reference_of}
use Rattle.rules.specs.Editions.{is_equal_codon}
use Rattle.reference.specs.Known.{Readable}
use Rattle.alike.specs.declared.Edition.{Edition}

-- the letters of an edition are those that the bytes s hold, by their form
abbrev pub edition_of : List ℕ → Edition → Reference
edition_of s x = reference_of (letters_by x.form s) x.cds x.e

-- a reference that was judged, so short that the number of each codon has two bytes
pub record Fits (s : List ℕ) (x : Edition) : Type 0 where
  pub readable : Readable (letters_by x.form s) x.cds x.e
  pub short : length (letters_by x.form s) < 196606

-- two editions whose codons of equal letters have equal residues, and whose letters are bytes
pub record Alike (r s : Edition) : Type 0 where
  pub bytes : r.form ≡ Bytes
  pub also : s.form ≡ Bytes
  pub table : r.cds.table ≡ s.cds.table
  pub none : r.e.count ≡ 0
  pub neither : s.e.count ≡ 0

-- the k codons from n on are equal
unfoldable pub AreEqual : Reference → Reference → ℕ → ℕ → Type 0
AreEqual r s n k = (m : ℕ) → n ≤ m → m < n + k → is_equal_codon r s m ≡ true
