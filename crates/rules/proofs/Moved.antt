-- What two transcripts share, for exceptions that move: the beginning before the CDS, and an ending that doesn't overlap the beginning.
-- Assumes nothing.
use mathlib.Core.Path.{◌≡◌, sym, ap, ◌∙◌}
use mathlib.Core.List.{List, ◌++◌}
use Prim.Native.Nat.{ℕ, ◌+◌, ◌-◌, ◌*◌, ◌/◌, ◌≤◌}
use native.Mathlib.Omega.{arith}
use lib.ListN.{length, take, drop, length-drop, take-append-drop}
use lib.Seq.{length-take-le}
use Rattle.rules.specs.declared.Exception.{Exception}
use Rattle.rules.specs.Trims.{common_prefix}
use Rattle.rules.specs.Reference.{Reference, size}
use Rattle.rules.specs.Edit.{Asked}
use Rattle.rules.specs.Altered.{Swap, carried, cut_swap, altered_transcript}
use Rattle.rules.specs.Exceptions.{suffix_behind, shifted, codon_index, codon_number}
use Rattle.rules.specs.declared.Limits.{Limits}
use Rattle.rules.specs.Refusal.{refusal}
use Rattle.rules.proofs.Trims.{cp_le_l, cp_le_r, cp_append, cs_le_l, cs_le_r}
use Rattle.rules.proofs.Span.{span}

-- an exception moved by the length change
abbrev pub moved_to : ℕ → List ℕ → List ℕ → Exception → Exception
moved_to first old new e = record { codon = codon_number first (shifted (codon_index first e.codon) old new); residue = e.residue }

-- the prefix and the suffix behind it are both within either transcript
pub suffix_fits : (old new : List ℕ) → let p = common_prefix old new in (p + suffix_behind p old new ≤ length old) × (p + suffix_behind p old new ≤ length new)
unfolding suffix_behind
suffix_fits old new =
    let p = common_prefix old new in (
      omega (arith, cp_le_l old new, cs_le_l (drop p old) (drop p new), length-drop p old),
      omega (arith, cp_le_r old new, cs_le_r (drop p old) (drop p new), length-drop p new),
    )

-- what stands before an edit is shared
shared_front_lem : (w : Swap) (s : List ℕ) → w.from ≤ length s → w.from ≤ common_prefix s (carried w s)
unfolding carried
shared_front_lem w s h =
    let behind = w.put ++ drop w.to s in
    let shared : common_prefix s (carried w s) ≡ w.from + common_prefix (drop w.from s) behind =
    ap (λ (l : List ℕ). common_prefix l (carried w s)) (sym (take-append-drop w.from s)) ∙ cp_append (take w.from s) (drop w.from s) behind
    ∙ rw (length-take-le w.from s h) in
    omega arith

-- so is what stands before the CDS
pub before-cds_shared : (m : Limits) (r : Reference) (e : Asked) → refusal m r e ≡ 0 → r.cs - 1 ≤ common_prefix r.letters (altered_transcript r e)
unfolding altered_transcript cut_swap size
before-cds_shared m r e h =
    let w = span m r e h in
    omega (arith, w.front, shared_front_lem (cut_swap r e) r.letters (omega (arith, w.rising, w.ends)))

-- the CDS's codons are within the transcript
pub cds_fits : (cs ce L : ℕ) → 1 ≤ cs → cs ≤ ce → ce ≤ L → cs - 1 + 3 * ((ce + 1 - cs) / 3) ≤ L
cds_fits cs ce L h k l = omega arith
