-- What a plan makes of a checked reference, and what is known where it is carried out.
use Rattle.std.specs.Prelude.{ℕ, ◌+◌, ◌-◌, ◌/◌, ◌≤◌, min, ◌≡◌, true, false, List, [], eqb, length, drop, if◌then◌else◌}
use Rattle.rules.specs.declared.Edit.{Edit}
use Rattle.rules.specs.declared.Exceptions.{Exceptions}
use Rattle.rules.specs.declared.Limits.{Limits}
use Rattle.rules.specs.declared.Report.{Report}
use Rattle.rules.specs.Bytes.{all}
use Rattle.rules.specs.Letters.{is_letter}
use Rattle.rules.specs.Translation.{residue_count}
use Rattle.rules.specs.Reference.{Reference, reference_protein}
use Rattle.rules.specs.Altered.{altered_transcript}
use Rattle.rules.specs.Protein.{protein_of}
use Rattle.rules.specs.Record.{is_unknown, record_from}
use Rattle.rules.specs.Refusal.{refusal}
use Rattle.rules.specs.Views.{cds_of, bare, asked, reference_of}
use Rattle.letters.specs.Sets.{is_base}
use Rattle.walks.specs.Walks.{codons_walked}
use Rattle.reference.specs.declared.Known.{Known}
use Rattle.reference.specs.Bounds.{Sound}
use Rattle.reference.specs.Known.{Knows}
use Rattle.exceptions.specs.Moving.{Moves, Given}
use Rattle.edits.specs.declared.plans.Plan.{Plan}
use Rattle.edits.specs.Plans.{plan_of}
use Rattle.transcript.specs.Carrying.{carried_by}
use Rattle.reuse.specs.Reusing.{pieces_by, read_by}

-- the protein of the transcript that a plan makes
unfoldable pub protein_by : Reference → Plan → List ℕ → List ℕ
protein_by r p new = protein_of r (carried_by p r.letters new)

-- the codons that are looked up for it: those that are read, or with exceptions all through the first stop
unfoldable pub looked_by : Reference → Plan → List ℕ → ℕ
looked_by r p new =
    let transcript = carried_by p r.letters new in
    if eqb (length r.exceptions) 0 then
    codons_walked r.table [] (read_by transcript (pieces_by (cds_of r.cs r.ce r.table r.end) p (length (reference_protein r))))
    else min (length (protein_by r p new)) (length (drop (r.cs - 1) transcript) / 3)

-- what is reported of it
unfoldable pub report_by : Reference → Plan → List ℕ → Report
report_by r p new =
    record {
      found = record_from p.shift p.number (reference_protein r) (protein_by r p new);
      frameshift = p.shift;
      transcript = length (carried_by p r.letters new);
      reference = length (reference_protein r);
      altered = length (protein_by r p new);
      codons = looked_by r p new;
    }

-- a transcript that an edit makes of a checked reference, and room for its protein
pub record Codes (s : List ℕ) (k : Known) (e : Exceptions) (new transcript altered : List ℕ) : Type 0 where
  pub sound : Sound (bare s k.cds)
  pub given : Given (k.cds.cs - 1) s e
  pub moves : Moves (k.cds.cs - 1) s transcript
  pub front : k.cds.cs - 1 ≤ length transcript
  pub letters : all is_letter transcript ≡ true
  pub plain : k.plain ≡ true → all is_base new ≡ true → all is_base transcript ≡ true
  pub room : residue_count (length transcript + 1 - k.cds.cs) ≤ length altered

-- the transcript of an accepted edit of a checked reference, and room for its protein
pub record Makes (s : List ℕ) (k : Known) (e : Exceptions) (protein : List ℕ) (p : Plan) (new transcript altered : List ℕ) : Type 0 where
  pub limits : Limits
  pub known : Knows limits s k e protein
  pub edit : Edit
  pub allowed : refusal limits (reference_of s k.cds e) (asked edit new) ≡ 0
  pub is : p ≡ plan_of (reference_of s k.cds e) (asked edit new)
  pub changes : is_unknown (reference_of s k.cds e) (asked edit new) ≡ false
  pub made : transcript ≡ altered_transcript (reference_of s k.cds e) (asked edit new)
  pub codes : Codes s k e new transcript altered

-- the plan of an accepted edit of a checked reference, and room for what it makes
pub record Carries (s : List ℕ) (k : Known) (e : Exceptions) (protein : List ℕ) (p : Plan) (new transcript altered : List ℕ) : Type 0 where
  pub limits : Limits
  pub known : Knows limits s k e protein
  pub edit : Edit
  pub allowed : refusal limits (reference_of s k.cds e) (asked edit new) ≡ 0
  pub is : p ≡ plan_of (reference_of s k.cds e) (asked edit new)
  pub changes : is_unknown (reference_of s k.cds e) (asked edit new) ≡ false
  pub for-transcript : p.length ≤ length transcript
  pub for-altered : residue_count (p.length + 1 - k.cds.cs) ≤ length altered
