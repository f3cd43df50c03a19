-- Laws of the last CDS codon: its residue, exceptions applied, is the last of the reference protein.
-- Assumes nothing.
use mathlib.Core.Path.{◌≡◌, refl, ap, ◌∙◌}
use mathlib.Core.List.{List}
use Prim.Native.Nat.{ℕ, ◌+◌, ◌-◌, ◌*◌, ◌/◌, ◌%◌, ◌≤◌, ◌<◌}
use native.Mathlib.Omega.{arith}
use lib.Dec.{eqb}
use lib.ListN.{length, drop, get_or}
use lib.Seq.{get_or-take, get_or-drop}
use Rattle.rules.specs.declared.Exceptions.{Exceptions}
use Rattle.rules.specs.Bytes.{byte}
use Rattle.rules.specs.Letters.{letter_set, is_letter}
use Rattle.rules.specs.Codons.{codon_rule, codon}
use Rattle.rules.specs.Translation.{exception_list, excepted}
use Rattle.rules.specs.Reference.{at_stop, size, cds_size, cds, codons, reference_protein, ends_in_stop}
use Rattle.rules.proofs.Lists.{all_at}
use Rattle.rules.proofs.Reading.{residue_at_lem}
use Rattle.rules.proofs.Reference.{length-cds, whole-codons}
use Rattle.letters.proofs.Sets.{letter_some}
use Rattle.rules.specs.declared.Cds.{Cds}
use Rattle.rules.specs.Views.{reference_of}
use Rattle.reference.specs.Known.{Readable}

module _ (s : List ℕ) (c : Cds) (e : Exceptions) (x : Readable s c e) (end : c.end ≡ at_stop) where
  -- a letter's set
  pub some-set : (j r : ℕ) → j < length s → r ≡ letter_set (get_or s j 0) → r < 16 → (0 < r) × (r < 16)
  some-set j r h e k = (rw e (letter_some (get_or s j 0) (all_at is_letter s j x.sound.letters h)), k)

  pub within : (3 ≤ c.ce) × (c.ce ≤ length s)
  unfolding cds_size size
  within = (omega (arith, x.sound.bounds.first, x.sound.bounds.long), x.sound.bounds.inside)

  whole : cds_size (reference_of s c e) % 3 ≡ 0
  whole = whole-codons (reference_of s c e) x.sound.bounds end

  letter-of : (i j : ℕ) → i < 3 → j ≡ (codons (reference_of s c e) - 1) * 3 + i → get_or (cds (reference_of s c e)) j 0 ≡ get_or s (c.ce - 3 + i) 0
  unfolding cds codons cds_size
  letter-of i j h is =
      let place : c.cs - 1 + j ≡ c.ce - 3 + i = omega (arith, x.sound.bounds.first, whole, x.sound.bounds.long) in
      get_or-take (c.ce + 1 - c.cs) (drop (c.cs - 1) s) j 0 (omega (arith, whole, x.sound.bounds.long)) ∙ get_or-drop (c.cs - 1) s j 0 ∙ ap (λ (n : ℕ). get_or s n 0) place

  -- it has a residue
  counted : (codons (reference_of s c e) - 1 < length (cds (reference_of s c e)) / 3) × (codons (reference_of s c e) - 1 + 1 ≡ codons (reference_of s c e))
  unfolding codons
  counted =
      let long = length-cds (reference_of s c e) x.sound.bounds in
      let six = x.sound.bounds.long in
      (omega (arith, long), omega arith)

  pub last-residue : (n residue r : ℕ) → n ≡ codons (reference_of s c e)
      → (a b d : ℕ) → a ≡ letter_set (get_or s (c.ce - 3) 0) → b ≡ letter_set (get_or s (c.ce - 3 + 1) 0) → d ≡ letter_set (get_or s (c.ce - 3 + 2) 0)
      → residue ≡ codon_rule c.table a b d
      → r ≡ excepted (exception_list e) n residue → eqb r (byte "*") ≡ ends_in_stop (reference_of s c e)
  unfolding ends_in_stop reference_protein codon
  last-residue n residue r is a b d is-a is_b is-d read excepts =
      let k = codons (reference_of s c e) in
      let at = residue_at_lem c.table (exception_list e) (cds (reference_of s c e)) (k - 1) counted.0 in
      let first = letter-of 0 ((k - 1) * 3) (omega arith) (omega arith) in
      let second = letter-of 1 ((k - 1) * 3 + 1) (omega arith) refl in
      let third = letter-of 2 ((k - 1) * 3 + 2) (omega arith) refl in
      let start : c.ce - 3 + 0 ≡ c.ce - 3 = omega arith in
      rw (at, first, second, third, start, counted.1, excepts, is, read, is-a, is_b, is-d)
