-- "Refusal numbers": what a call answers and writes. Unknown is decided after 10 and before 11.
use Rattle.std.specs.Prelude.{ℕ, zero, suc, ◌≡◌, List, [], Bool, true, false, length}
use Rattle.rules.specs.declared.Record.TheVariants.{Unknown}
use Rattle.rules.specs.declared.Limits.{Limits}
use Rattle.rules.specs.declared.Report.{Report}
use Rattle.rules.specs.Bytes.{Result, given, refused, over}
use Rattle.rules.specs.Reference.{Reference, reference_protein}
use Rattle.rules.specs.Edit.{Asked}
use Rattle.rules.specs.Altered.{altered_transcript, frameshift}
use Rattle.rules.specs.Protein.{altered_protein}
use Rattle.rules.specs.Reuse.{looked_up}
use Rattle.rules.specs.Record.{is_unknown, record_of}
use Rattle.rules.specs.Refusal.{refusal, Room, room_refusal}

-- the answer of a function that fills one buffer, and what it writes there
unfoldable pub written_of : Result (List ℕ) → Result ℕ
written_of (given s) = given (length s)
written_of (refused n) = refused n

unfoldable pub bytes_of : Result (List ℕ) → List ℕ
bytes_of (given s) = s
bytes_of (refused n) = []

-- an answer, and what is written to each of the three buffers from its start
pub record Outcome : Type 0 where
  pub answer : Result Report
  pub transcript : List ℕ
  pub reference : List ℕ
  pub altered : List ℕ

-- an answer that writes nothing
unfoldable pub writes_nothing : Result Report → Outcome
writes_nothing a = record { answer = a; transcript = []; reference = []; altered = [] }

-- zero lengths, no flag, and no codon looked up
unfoldable pub unknown_report : Report
unknown_report = record { found = Unknown; frameshift = false; transcript = 0; reference = 0; altered = 0; codons = 0 }

-- every other answer writes the altered transcript, R and A
unfoldable pub full_report : Reference → Asked → Report
full_report r e =
    record {
      found = record_of r e;
      frameshift = frameshift r e;
      transcript = length (altered_transcript r e);
      reference = length (reference_protein r);
      altered = length (altered_protein r e);
      codons = looked_up r e;
    }

unfoldable pub writes_all : Reference → Asked → Outcome
writes_all r e =
    record {
      answer = given (full_report r e);
      transcript = altered_transcript r e;
      reference = reference_protein r;
      altered = altered_protein r e;
    }

-- a refusal of 1 to 5, 6 or 28, 7 to 10, else Unknown, else a refusal of 11 or 12, else all
unfoldable pub outcome_by : ℕ → Bool → ℕ → Outcome → Outcome
outcome_by (suc n) unknown room all = writes_nothing (refused (suc n))
outcome_by zero true room all = writes_nothing (given unknown_report)
outcome_by zero false (suc n) all = writes_nothing (refused (suc n))
outcome_by zero false zero all = all

unfoldable pub outcome : Limits → Reference → Asked → Room → Outcome
outcome m r e room = outcome_by (refusal m r e) (is_unknown r e) (room_refusal r e room) (writes_all r e)

-- the answer is the outcome's, and each buffer is what it was under what the outcome writes
pub record Answers (o : Outcome) (a : Result Report) (transcript transcript' reference reference' altered altered' : List ℕ) : Type 0 where
  pub says : a ≡ o.answer
  pub holds-transcript : transcript' ≡ over o.transcript transcript
  pub holds-reference : reference' ≡ over o.reference reference
  pub holds-altered : altered' ≡ over o.altered altered
