-- E4, "Translate only changed codons": which codons of the altered transcript are reused, and how many are looked up. Codons are counted
-- from 0, the first begins at index cs-1; `at` is the index where a codon begins, in the altered transcript unless said otherwise.
use Rattle.std.specs.Prelude.{ℕ, zero, suc, ◌+◌, ◌-◌, ◌/◌, min, List, Bool, ◌&&◌, ◌||◌, not, eqb, leb, length, drop, if◌then◌else◌}
use Rattle.rules.specs.declared.Kind.TheVariants.{Identity}
use Rattle.rules.specs.Reference.{Reference}
use Rattle.rules.specs.Edit.{Asked, is, kind_of}
use Rattle.rules.specs.Altered.{Swap, cut_swap, altered_transcript}
use Rattle.rules.specs.Exceptions.{in_frame, codon_index}
use Rattle.rules.specs.Protein.{altered_protein}

-- wholly before the edit: its range, or the gap where the bases of an insertion or duplication go in
unfoldable pub lies_before : Swap → ℕ → Bool
lies_before w at = leb (at + 3) w.from

-- wholly behind it, and behind what goes in
unfoldable pub lies_behind : Swap → ℕ → Bool
lies_behind w at = leb (w.from + length w.put) at

-- where a codon behind it begins in the reference: the length change earlier or later
unfoldable pub origin : Swap → ℕ → ℕ
origin w at = at + w.to - (w.from + length w.put)

-- of a codon of the reference, from cs-1 on: in its frame inside the CDS
unfoldable pub is_of_cds : Reference → ℕ → Bool
is_of_cds r at = in_frame (r.cs - 1) at && leb (at + 3) r.ce

-- a reused codon is one wholly before the edit, or wholly behind it and in the reference's frame inside the CDS; an identity reuses every
-- CDS codon. One before the edit begins where it did; it is a CDS codon too, though a duplication's gap may lie behind the CDS. With exceptions
-- none is reused
unfoldable pub is_reused : Reference → Asked → ℕ → Bool
is_reused r e k =
    let at = codon_index (r.cs - 1) (k + 1) in
    let w = cut_swap r e in
    eqb (length r.exceptions) 0
    && (((is Identity (kind_of e) || lies_before w at) && is_of_cds r at) || (lies_behind w at && is_of_cds r (origin w at)))

-- the altered transcript from cs-1 on
unfoldable pub altered_coding : Reference → Asked → List ℕ
altered_coding r e = drop (r.cs - 1) (altered_transcript r e)

-- its whole codons, up to and with the first stop
unfoldable pub codons_through_stop : Reference → Asked → ℕ
codons_through_stop r e = min (length (altered_protein r e)) (length (altered_coding r e) / 3)

-- how many of 0 to n-1 pass
unfoldable pub count_to : (ℕ → Bool) → ℕ → ℕ
count_to p zero = 0
count_to p (suc n) = if p n then suc (count_to p n) else count_to p n

-- the codons looked up: of those through the first stop, the ones that are not reused
unfoldable pub looked_up : Reference → Asked → ℕ
looked_up r e = count_to (λ (k : ℕ). not (is_reused r e k)) (codons_through_stop r e)
