-- What is known of an edition that was judged.
-- Assumes nothing.
use mathlib.Core.Path.{◌≡◌, refl, sym, ◌∙◌}
use mathlib.Core.Bool.{true}
use mathlib.Core.List.{List}
use Prim.Native.Nat.{ℕ, ◌+◌, ◌-◌, ◌/◌, ◌<◌, ◌≤◌}
use native.Mathlib.Omega.{arith}
use lib.ListN.{length, drop}
use Rattle.rules.specs.Bytes.{all}
use Rattle.rules.specs.Letters.{is_letter}
use Rattle.rules.specs.Translation.{exception_list, residue_count}
use Rattle.rules.specs.Reference.{size, cds_size, cds, reference_protein}
use Rattle.rules.specs.Packed.{letters_by}
use Rattle.rules.specs.Views.{bare}
use Rattle.rules.specs.Editions.{codon_count}
use Rattle.rules.proofs.Tests.{all_take, all_drop}
use Rattle.rules.proofs.Translation.{length-translated}
use Rattle.rules.proofs.Reference.{length-cds}
use Rattle.reference.proofs.Reading.{few-exceptions}
use Rattle.entries.specs.Entries.{base_at, entry_of, Inside}
use Rattle.alike.specs.declared.Edition.{Edition}
use Rattle.alike.specs.Reading.{edition_of, Fits}

module _ (s : List ℕ) (x : Edition) (fits : Fits s x) where
  pub bounds-of-cds : length (cds (edition_of s x)) ≡ x.cds.ce - (x.cds.cs - 1)
  unfolding cds_size
  bounds-of-cds =
      let b = fits.readable.sound.bounds in
      length-cds (edition_of s x) b ∙ omega (arith, b.first, b.rising)

  pub inside_of : Inside (letters_by x.form s) x.cds
  unfolding size
  inside_of =
      let b = fits.readable.sound.bounds in
      record { first = b.first; rising = b.rising; ends = b.inside; letters = fits.readable.sound.letters }

  pub count_of : (x.cds.ce - (x.cds.cs - 1) + 2) / 3 ≡ codon_count (edition_of s x)
  unfolding codon_count reference_protein residue_count
  count_of = sym (length-translated x.cds.table (exception_list x.e) (cds (edition_of s x)) ∙ omega (arith, bounds-of-cds))

  pub count_small : codon_count (edition_of s x) < 65536
  unfolding size
  count_small =
      let b = fits.readable.sound.bounds in
      omega (arith, count_of, b.first, b.rising, b.inside, fits.short)

  pub letters-of-cds : all is_letter (cds (edition_of s x)) ≡ true
  unfolding cds
  letters-of-cds =
      all_take is_letter (cds_size (edition_of s x)) (drop (x.cds.cs - 1) (letters_by x.form s)) (all_drop is_letter (x.cds.cs - 1) (letters_by x.form s) fits.readable.sound.letters)

  pub few-of : x.e.count ≤ 16
  few-of = few-exceptions (letters_by x.form s) x.cds x.e fits.readable

  -- a codon's number looks at the letters of the CDS alone
  pub entry-of : (n : ℕ) → entry_of (bare (letters_by x.form s) x.cds) n ≡ entry_of (edition_of s x) n
  unfolding entry_of base_at cds cds_size
  entry-of n = refl
