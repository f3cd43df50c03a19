-- The altered protein A: how many residues it has at most.
-- Assumes nothing.
use mathlib.Core.Path.{◌≡◌, ap, ◌∙◌}
use Prim.Native.Nat.{◌+◌, ◌-◌, ◌≤◌}
use native.Mathlib.Omega.{arith}
use lib.ListN.{length, drop, length-drop}
use Rattle.rules.specs.Translation.{translated, residue_count}
use Rattle.rules.specs.Reference.{Reference}
use Rattle.rules.specs.Edit.{Asked}
use Rattle.rules.specs.Altered.{altered_transcript, altered_length}
use Rattle.rules.specs.Exceptions.{moved_exceptions}
use Rattle.rules.specs.Protein.{protein_of, altered_protein}
use Rattle.rules.specs.declared.Limits.{Limits}
use Rattle.rules.specs.Refusal.{refusal}
use Rattle.rules.proofs.Translation.{length-translated, through_le}
use Rattle.rules.proofs.Refusing.{reference-accepted}
use Rattle.rules.proofs.Altered.{altered_length_lem}

-- a buffer of ceil((altered length-cs+1)/3) holds A
pub altered_room_lem : (m : Limits) (r : Reference) (e : Asked) → refusal m r e ≡ 0 → length (altered_protein r e) ≤ residue_count (altered_length r e + 1 - r.cs)
unfolding altered_protein protein_of
altered_room_lem m r e h =
    let coding = drop (r.cs - 1) (altered_transcript r e) in
    let es = moved_exceptions r (altered_transcript r e) in
    let first = (reference-accepted m r e h).bounds.first in
    let long : length coding ≡ altered_length r e + 1 - r.cs = length-drop (r.cs - 1) (altered_transcript r e) ∙ omega (arith, (altered_length_lem m r e h).is) in
    omega (arith, through_le (translated r.table es coding), length-translated r.table es coding ∙ ap residue_count long)
