-- E11, "Compare two editions of a transcript": the codons in which two references differ, in rising codon number.
use Rattle.std.specs.Prelude.{ℕ, zero, suc, ◌+◌, ◌-◌, ◌*◌, ◌/◌, ◌%◌, max, List, [], ◌∷◌, Bool, ◌&&◌, eqb, ltb, length, get_or, if◌then◌else◌}
use Rattle.rules.specs.Bytes.{same, each, Test, ◌↯◌, first_number, Result, unless}
use Rattle.rules.specs.Reference.{Reference, cds, reference_protein}
use Rattle.rules.specs.Altered.{part}
use Rattle.rules.specs.Refusal.{reference_refusal}

-- the codons of a CDS; the one or two bases at the end of a reference cut short count as a codon, with residue X
unfoldable pub codon_count : Reference → ℕ
codon_count r = length (reference_protein r)

-- the letters of codon n, from 1, and its residue; none and 0 where the CDS has no such codon
unfoldable pub codon_letters : Reference → ℕ → List ℕ
codon_letters r n = part (3 * (n - 1)) (3 * n) (cds r)

unfoldable pub codon_residue : Reference → ℕ → ℕ
codon_residue r n = get_or (reference_protein r) (n - 1) 0

-- the same letters and the same residue
unfoldable pub is_equal_codon : Reference → Reference → ℕ → Bool
is_equal_codon r s n = same (codon_letters r n) (codon_letters s n) && eqb (codon_residue r n) (codon_residue s n)

-- a codon's number, and both residues, 0 for a codon that isn't there
pub record Difference : Type 0 where
  pub number : ℕ
  pub first : ℕ
  pub second : ℕ

unfoldable pub difference_at : Reference → Reference → ℕ → Difference
difference_at r s n = record { number = n; first = codon_residue r n; second = codon_residue s n }

-- of the k codons from number n on, those that differ
unfoldable pub differences_from : Reference → Reference → ℕ → ℕ → List Difference
differences_from r s n zero = []
differences_from r s n (suc k) =
    if is_equal_codon r s n then differences_from r s (suc n) k else (difference_at r s n ∷ differences_from r s (suc n) k)

-- each codon that exists in both and has other letters or residues, then the codons that only one has
unfoldable pub differences : Reference → Reference → List Difference
differences r s = differences_from r s 1 (max (codon_count r) (codon_count s))

-- four bytes a difference: the number in two, high byte first, then the two residues, 0 for a codon that isn't there
unfoldable pub difference_bytes : Difference → List ℕ
difference_bytes d = d.number / 256 ∷ d.number % 256 ∷ d.first ∷ d.second ∷ []

unfoldable pub listed : Reference → Reference → List ℕ
listed r s = each difference_bytes (differences r s)

-- as for the first reference, then for the second, each with 100 added; 50: the list doesn't fit its buffer
unfoldable pub edition_tests : ℕ → Reference → Reference → ℕ → List Test
edition_tests longest r s room =
    ltb 0 (reference_refusal longest r) ↯ reference_refusal longest r
    ∷ ltb 0 (reference_refusal longest s) ↯ (100 + reference_refusal longest s)
    ∷ ltb room (length (listed r s)) ↯ 50
    ∷ []

-- the list, into a buffer with so much room, or the one refusal
unfoldable pub compared : ℕ → Reference → Reference → ℕ → Result (List ℕ)
compared longest r s room = unless (first_number (edition_tests longest r s room)) (listed r s)
