-- What is answered and written by what was decided of an edit.
use Rattle.std.specs.Prelude.{ℕ, ◌+◌, ◌-◌, ◌≤◌, ◌≡◌, Bool, Option, None, Some, List, [], length, take}
use Rattle.rules.specs.declared.Cds.{Cds}
use Rattle.rules.specs.declared.Exceptions.{Exceptions}
use Rattle.rules.specs.declared.Report.{Report}
use Rattle.rules.specs.Bytes.{Result, given, refused, first_number, unless, over}
use Rattle.rules.specs.Reference.{Reference, reference_protein}
use Rattle.rules.specs.Edit.{Asked}
use Rattle.rules.specs.Refusal.{limits, Room, room_tests}
use Rattle.rules.specs.Views.{cds_of}
use Rattle.rules.specs.Answer.{Outcome, writes_nothing, unknown_report}
use Rattle.reference.specs.declared.Known.{Known}
use Rattle.reference.specs.Known.{Knows}
use Rattle.edits.specs.declared.plans.Plan.{Plan}
use Rattle.edits.specs.Decisions.{decision_of}
use Rattle.transcript.specs.Carrying.{carried_by}
use Rattle.altseq.specs.Carried.{protein_by, report_by}

-- 11 or 12 for an altered length, or 0
abbrev pub room_by : Cds → ℕ → Room → ℕ
room_by c n room = first_number (room_tests (c.ce + 1 - c.cs) c.cs n room)

-- 11 and 12 behind what was decided
unfoldable pub with_room : Cds → Room → Result (Option Plan) → Result (Option Plan)
with_room c room (refused n) = refused n
with_room c room (given None) = given None
with_room c room (given (Some p)) = unless (room_by c p.length room) (Some p)

-- of an edit of a checked reference, at the library's limits
unfoldable pub decided_in : Bool → Reference → Asked → Room → Result (Option Plan)
decided_in several r a room = with_room (cds_of r.cs r.ce r.table r.end) room (decision_of limits.most several r a)

unfoldable pub decided_outcome : Reference → Result (Option Plan) → List ℕ → Outcome
decided_outcome r (refused n) new = writes_nothing (refused n)
decided_outcome r (given None) new = writes_nothing (given unknown_report)
decided_outcome r (given (Some p)) new =
    record {
      answer = given (report_by r p new);
      transcript = carried_by p r.letters new;
      reference = reference_protein r;
      altered = protein_by r p new;
    }

-- a reference that was checked at the library's limits
pub record Accepts (s : List ℕ) (k : Known) : Type 0 where
  pub exceptions : Exceptions
  pub protein : List ℕ
  pub known : Knows limits s k exceptions protein

-- as much of R as an answer reports
unfoldable pub reference_in : Result Report → List ℕ → List ℕ
reference_in (refused n) protein = []
reference_in (given p) protein = take p.reference protein

-- so much is there, and has room
pub record Copies (a : Result Report) (protein : List ℕ) (room : ℕ) : Type 0 where
  pub there : (p : Report) → a ≡ given p → p.reference ≤ length protein
  pub has_room : (p : Report) → a ≡ given p → p.reference ≤ room

-- an outcome whose R stays in a protein beside a buffer with so much room: what is answered, and what the two other buffers hold
pub record AnswersBeside (o : Outcome) (a : Result Report) (protein : List ℕ) (room : ℕ) (transcript transcript' altered altered' : List ℕ) : Type 0 where
  pub says : a ≡ o.answer
  pub holds-transcript : transcript' ≡ over o.transcript transcript
  pub keeps-reference : reference_in a protein ≡ o.reference
  pub holds-altered : altered' ≡ over o.altered altered
  pub copies : Copies a protein room
