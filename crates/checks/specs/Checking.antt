-- What a checked record is answered, and what is written, by what was decided.
use Rattle.std.specs.Prelude.{ℕ, ◌≤◌, ◌≡◌, List, [], length, take, if◌then◌else◌}
use Rattle.rules.specs.declared.Verdict.{Verdict}
use Rattle.rules.specs.Bytes.{Result, given, refused, over}
use Rattle.rules.specs.Reference.{Reference, reference_protein}
use Rattle.rules.specs.Check.{Proposal, replays, is_shortest, is_proposal, CheckOutcome, checks_nothing}
use Rattle.edits.specs.declared.plans.Plan.{Plan}
use Rattle.transcript.specs.Carrying.{carried_by}
use Rattle.altseq.specs.Carried.{protein_by}

-- the answer is the outcome's, and each buffer is what it was under what the outcome writes
pub record CheckAnswers (o : CheckOutcome) (a : Result Verdict) (transcript transcript' reference reference' altered altered' : List ℕ) : Type 0 where
  pub says : a ≡ o.answer
  pub holds-transcript : transcript' ≡ over o.transcript transcript
  pub holds-reference : reference' ≡ over o.reference reference
  pub holds-altered : altered' ≡ over o.altered altered

-- as much of R as an answer reports
unfoldable pub reference_in : Result Verdict → List ℕ → List ℕ
reference_in (refused n) protein = []
reference_in (given v) protein = take v.reference protein

-- the same before R is copied: it stands in `protein`, and as much of it as the answer reports is the outcome's and has `room`
pub record Holds (o : CheckOutcome) (a : Result Verdict) (transcript transcript' : List ℕ) (room : ℕ) (protein altered altered' : List ℕ) : Type 0 where
  pub says : a ≡ o.answer
  pub holds-transcript : transcript' ≡ over o.transcript transcript
  pub holds-altered : altered' ≡ over o.altered altered
  pub stands : reference_in a protein ≡ o.reference
  pub there : (v : Verdict) → a ≡ given v → v.reference ≤ length protein
  pub has_room : (v : Verdict) → a ≡ given v → v.reference ≤ room

-- the two answers, and the bytes written to each buffer
unfoldable pub verdict_by : Proposal → Reference → Plan → List ℕ → Verdict
verdict_by q r p new =
    record {
      replays = replays q (reference_protein r) (protein_by r p new);
      shortest = is_shortest q (reference_protein r) (protein_by r p new);
      transcript = length (carried_by p r.letters new);
      reference = length (reference_protein r);
      altered = length (protein_by r p new);
    }

-- 27, or the two answers, of a plan that makes another protein
unfoldable pub judged_outcome : Proposal → Reference → Plan → List ℕ → CheckOutcome
judged_outcome q r p new =
    if is_proposal q (reference_protein r) then
    record {
      answer = given (verdict_by q r p new);
      transcript = carried_by p r.letters new;
      reference = reference_protein r;
      altered = protein_by r p new;
    }
    else checks_nothing 27

-- by what was decided
unfoldable pub decided_check : Proposal → Reference → Result Plan → List ℕ → CheckOutcome
decided_check q r (refused n) new = checks_nothing n
decided_check q r (given p) new = judged_outcome q r p new
