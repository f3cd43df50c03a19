-- E7, "Check records from older annotators": whether a proposed record replays, and whether it is the shortest.
use Rattle.std.specs.Prelude.{ℕ, zero, suc, ◌+◌, ◌-◌, List, [], ◌∷◌, Bool, true, false, ◌&&◌, not, eqb, ltb, length, take, drop}
use Rattle.rules.specs.declared.Limits.{Limits}
use Rattle.rules.specs.declared.Verdict.{Verdict}
use Rattle.rules.specs.Bytes.{same, is_none, all, Test, ◌↯◌, first_number, Result, given, refused}
use Rattle.rules.specs.Trims.{common_prefix}
use Rattle.rules.specs.Translation.{is_residue}
use Rattle.rules.specs.Reference.{Reference, reference_protein}
use Rattle.rules.specs.Edit.{Asked}
use Rattle.rules.specs.Altered.{altered_transcript}
use Rattle.rules.specs.Protein.{altered_protein}
use Rattle.rules.specs.Record.{is_unknown, ending, replayed}
use Rattle.rules.specs.Refusal.{refusal, Room, room_refusal}

-- a proposed record: number, deleted residues, inserted residues
pub record Proposal : Type 0 where
  pub number : ℕ
  pub deleted : List ℕ
  pub inserted : List ℕ

-- the deleted residues stand in R at that number
unfoldable pub stands : Proposal → List ℕ → Bool
stands p R = same (take (length p.deleted) (drop (p.number - 1) R)) p.deleted

-- and replacing them gives A
unfoldable pub replays : Proposal → List ℕ → List ℕ → Bool
replays p R A = stands p R && same (replayed p.number p.deleted p.inserted R) A

-- it begins where the proteins part
unfoldable pub begins_there : Proposal → List ℕ → List ℕ → Bool
begins_there p R A = eqb p.number (common_prefix R A + 1)

-- it stops before the longest ending that R and A share behind that, whatever the flag
unfoldable pub leaves_ending : Proposal → List ℕ → List ℕ → Bool
leaves_ending p R A =
    eqb (p.number - 1 + length p.deleted + ending false (common_prefix R A) R A) (length R)

-- the proposal also begins where the proteins part and is the shortest such
unfoldable pub is_shortest : Proposal → List ℕ → List ℕ → Bool
is_shortest p R A = replays p R A && begins_there p R A && leaves_ending p R A

-- the edit's answer is Changed, where it isn't Unknown
unfoldable pub is_changed : List ℕ → List ℕ → Bool
is_changed R A = not (is_none A) && not (same R A)

-- a number from 1 to length of R plus one, and residues A to Z or `*`
unfoldable pub is_proposal : Proposal → List ℕ → Bool
is_proposal p R =
    not (eqb p.number 0) && not (ltb (length R + 1) p.number) && all is_residue p.deleted && all is_residue p.inserted

-- 26 and 27
unfoldable pub proposal_tests : Proposal → List ℕ → List ℕ → List Test
proposal_tests p R A = not (is_changed R A) ↯ 26 ∷ not (is_proposal p R) ↯ 27 ∷ []

-- an answer, and what is written to each of the three buffers from its start
pub record CheckOutcome : Type 0 where
  pub answer : Result Verdict
  pub transcript : List ℕ
  pub reference : List ℕ
  pub altered : List ℕ

-- an answer that writes nothing
unfoldable pub checks_nothing : ℕ → CheckOutcome
checks_nothing n = record { answer = refused n; transcript = []; reference = []; altered = [] }

-- the two answers, and the bytes written to each buffer
unfoldable pub verdict_of : Proposal → Reference → Asked → Verdict
verdict_of p r e =
    record {
      replays = replays p (reference_protein r) (altered_protein r e);
      shortest = is_shortest p (reference_protein r) (altered_protein r e);
      transcript = length (altered_transcript r e);
      reference = length (reference_protein r);
      altered = length (altered_protein r e);
    }

unfoldable pub checks_all : Proposal → Reference → Asked → CheckOutcome
checks_all p r e =
    record {
      answer = given (verdict_of p r e);
      transcript = altered_transcript r e;
      reference = reference_protein r;
      altered = altered_protein r e;
    }

-- a refusal of 1 to 5, 6 or 28, 7 to 10, then 26 for an Unknown, then 11 and 12, then 26 and 27
unfoldable pub check_by : ℕ → Bool → ℕ → ℕ → CheckOutcome → CheckOutcome
check_by (suc n) unknown room proposal all = checks_nothing (suc n)
check_by zero true room proposal all = checks_nothing 26
check_by zero false (suc n) proposal all = checks_nothing (suc n)
check_by zero false zero (suc n) all = checks_nothing (suc n)
check_by zero false zero zero all = all

unfoldable pub check_outcome : Limits → Reference → Asked → Proposal → Room → CheckOutcome
check_outcome m r e p room =
    check_by (refusal m r e) (is_unknown r e) (room_refusal r e room)
    (first_number (proposal_tests p (reference_protein r) (altered_protein r e)))
    (checks_all p r e)
