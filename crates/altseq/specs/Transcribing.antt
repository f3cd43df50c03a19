-- The altered transcript alone: refusals 1 to 11, Unknown before 11, else what is written.
use Rattle.std.specs.Prelude.{ℕ, zero, suc, Bool, true, false, Option, None, Some, List, [], ltb, length, if◌then◌else◌}
use Rattle.rules.specs.declared.Limits.{Limits}
use Rattle.rules.specs.Bytes.{Result, given, refused}
use Rattle.rules.specs.Reference.{Reference}
use Rattle.rules.specs.Edit.{Asked}
use Rattle.rules.specs.Altered.{altered_transcript, altered_length, frameshift}
use Rattle.rules.specs.Record.{is_unknown}
use Rattle.rules.specs.Refusal.{refusal}
use Rattle.edits.specs.declared.plans.Plan.{Plan}
use Rattle.transcript.specs.Carrying.{carried_by}
use Rattle.altseq.specs.declared.alone.Transcribed.{Transcribed}

-- an answer, and what is written to the buffer from its start
pub record Edited : Type 0 where
  pub answer : Result (Option Transcribed)
  pub transcript : List ℕ

-- an answer that writes nothing
abbrev pub unwritten : Result (Option Transcribed) → Edited
unwritten x = record { answer = x; transcript = [] }

-- what is written, its length and the flag
abbrev pub written : Bool → List ℕ → Edited
written flag s = record { answer = given (Some (record { length = length s; frameshift = flag })); transcript = s }

-- a refusal of 1 to 10, else Unknown, else 11, else all
unfoldable pub edited_by : ℕ → Bool → Bool → Edited → Edited
edited_by (suc n) unknown short all = unwritten (refused (suc n))
edited_by zero true short all = unwritten (given None)
edited_by zero false true all = unwritten (refused 11)
edited_by zero false false all = all

-- into a buffer with so much room
unfoldable pub edited : Limits → Reference → Asked → ℕ → Edited
edited m r e room =
    edited_by (refusal m r e) (is_unknown r e) (ltb room (altered_length r e)) (written (frameshift r e) (altered_transcript r e))

-- 11, else the transcript that a plan makes
unfoldable pub made_by : Plan → List ℕ → List ℕ → ℕ → Edited
made_by p letters new room = if ltb room p.length then unwritten (refused 11) else written p.shift (carried_by p letters new)
