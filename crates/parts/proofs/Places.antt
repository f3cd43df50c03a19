-- Laws of places in three parts: letters, and residues by their codons.
-- Assumes nothing.
use mathlib.Core.Path.{◌≡◌, sym, ap, ◌∙◌}
use mathlib.Core.Bool.{Bool, true, ◌&&◌}
use mathlib.Core.List.{List, ◌++◌}
use Prim.Native.Nat.{ℕ, ◌+◌, ◌-◌, ◌*◌, ◌≤◌, ◌<◌}
use native.Mathlib.Omega.{arith}
use lib.ListN.{length, drop, get_or, length-append, get_or-append}
use lib.Seq.{get_or-append-add, get_or-take, get_or-drop}
use Rattle.rules.specs.declared.Cds.{Cds}
use Rattle.rules.specs.declared.Exceptions.{Exceptions}
use Rattle.rules.specs.Bytes.{all}
use Rattle.rules.specs.Letters.{letter_set, is_letter}
use Rattle.rules.specs.Codons.{codon_rule, codon}
use Rattle.rules.specs.Translation.{exception_list, excepted}
use Rattle.rules.specs.Reference.{size, cds_size, cds, codons, reference_protein}
use Rattle.rules.specs.Views.{reference_of}
use Rattle.rules.proofs.Lists.{all_append, all_at}
use Rattle.rules.proofs.Reading.{residue_at_lem}
use Rattle.rules.proofs.Reference.{length-cds}
use Rattle.letters.proofs.Sets.{letter_some}
use Rattle.reference.specs.Known.{Readable}
use Rattle.parts.specs.Parts.{in_parts}

module _ (a b c : List ℕ) where
  pub length-parts : length (in_parts a b c) ≡ length a + (length b + length c)
  length-parts = length-append a (b ++ c) ∙ ap (λ (n : ℕ). length a + n) (length-append b c)

  pub letters-in : all is_letter (in_parts a b c) ≡ (all is_letter a && (all is_letter b && all is_letter c))
  letters-in = all_append is_letter a (b ++ c) ∙ ap (λ (t : Bool). all is_letter a && t) (all_append is_letter b c)

  module _ (i : ℕ) where
    pub in-first : i < length a → get_or a i 0 ≡ get_or (in_parts a b c) i 0
    in-first h = sym (get_or-append a (b ++ c) 0 i h)

    behind : length a ≤ i → get_or (b ++ c) (i - length a) 0 ≡ get_or (in_parts a b c) i 0
    behind h =
        let at : length a + (i - length a) ≡ i = omega arith in
        sym (get_or-append-add a (b ++ c) (i - length a) 0) ∙ ap (λ (n : ℕ). get_or (in_parts a b c) n 0) at

    pub in-second : length a ≤ i → i - length a < length b → get_or b (i - length a) 0 ≡ get_or (in_parts a b c) i 0
    in-second h k = sym (get_or-append b c 0 (i - length a) k) ∙ behind h

    pub in-third : length a ≤ i → length b ≤ i - length a → get_or c (i - length a - length b) 0 ≡ get_or (in_parts a b c) i 0
    in-third h k =
        let at : length b + (i - length a - length b) ≡ i - length a = omega arith in
        sym (get_or-append-add b c (i - length a - length b) 0) ∙ ap (λ (n : ℕ). get_or (b ++ c) n 0) at ∙ behind h

    -- a letter's set
    pub some-set : (r : ℕ) → i < length (in_parts a b c) → all is_letter (in_parts a b c) ≡ true → r ≡ letter_set (get_or (in_parts a b c) i 0) → r < 16 → (0 < r) × (r < 16)
    some-set r h are is small = (rw is (letter_some (get_or (in_parts a b c) i 0) (all_at is_letter (in_parts a b c) i are h)), small)

-- residues of R, where none of 1 to 5 applies
module _ (s : List ℕ) (c : Cds) (e : Exceptions) (x : Readable s c e) where
  pub codon-within : (k : ℕ) → k < codons (reference_of s c e) → (1 ≤ c.cs) × (c.cs - 1 + k * 3 + 3 ≤ length s) × (length s < 4294967296)
  unfolding codons cds_size size
  codon-within k h = (x.sound.bounds.first, omega (arith, x.sound.bounds.first, x.sound.bounds.inside, h), x.sound.short)

  pub small : length s < 4294967296
  unfolding size
  small = x.sound.short

  letter-of : (k i : ℕ) → k < codons (reference_of s c e) → i < 3 → get_or (cds (reference_of s c e)) (k * 3 + i) 0 ≡ get_or s (c.cs - 1 + k * 3 + i) 0
  unfolding cds codons cds_size
  letter-of k i h j =
      let place : c.cs - 1 + (k * 3 + i) ≡ c.cs - 1 + k * 3 + i = omega arith in
      get_or-take (c.ce + 1 - c.cs) (drop (c.cs - 1) s) (k * 3 + i) 0 (omega (arith, h)) ∙ get_or-drop (c.cs - 1) s (k * 3 + i) 0 ∙ ap (λ (n : ℕ). get_or s n 0) place

  pub residue-is : (k residue r : ℕ) → k < codons (reference_of s c e)
      → (p q w : ℕ) → p ≡ letter_set (get_or s (c.cs - 1 + k * 3) 0) → q ≡ letter_set (get_or s (c.cs - 1 + k * 3 + 1) 0) → w ≡ letter_set (get_or s (c.cs - 1 + k * 3 + 2) 0)
      → residue ≡ codon_rule c.table p q w → r ≡ excepted (exception_list e) (k + 1) residue → r ≡ get_or (reference_protein (reference_of s c e)) k 0
  unfolding reference_protein codon codons
  residue-is k residue r h p q w is-p is-q is-w read excepts =
      let long = length-cds (reference_of s c e) x.sound.bounds in
      let at = residue_at_lem c.table (exception_list e) (cds (reference_of s c e)) k (omega (arith, h, long)) in
      let none : k * 3 + 0 ≡ k * 3 = omega arith in
      let start : c.cs - 1 + k * 3 + 0 ≡ c.cs - 1 + k * 3 = omega arith in
      let first : get_or (cds (reference_of s c e)) (k * 3) 0 ≡ get_or s (c.cs - 1 + k * 3) 0 = rw (none, start) at (letter-of k 0 h (omega arith)) in
      rw (at, first, letter-of k 1 h (omega arith), letter-of k 2 h (omega arith), excepts, read, is-p, is-q, is-w)
