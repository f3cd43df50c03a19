-- A line's answer at the front of a buffer, and what a first line leaves.
use Rattle.std.specs.Prelude.{ℕ, ◌≤◌, ◌≡◌, List, [], length, take}
use Rattle.rules.specs.declared.Form.TheVariants.{Bytes}
use Rattle.rules.specs.Bytes.{over}
use Rattle.rules.specs.Translation.{no_exceptions}
use Rattle.rules.specs.Reference.{Reference, reference_protein}
use Rattle.rules.specs.Line.{text_limits}
use Rattle.rules.specs.Run.{record_line}
use Rattle.rules.specs.Views.{bare}
use Rattle.reference.specs.declared.Known.{Known}
use Rattle.reference.specs.Known.{Knows}
use Rattle.edits.specs.declared.plans.Plan.{Plan}
use Rattle.altseq.specs.Carried.{protein_by, report_by}
use Rattle.text_answers.specs.declared.Phase.{Phase}
use Rattle.text_answers.specs.declared.Phase.TheVariants.{Opening, Editing, Ended}
use Rattle.text_answers.specs.Stage.{Stage, opening, editing, ended}

-- the line of a plan that is carried out
abbrev pub plan_line : Reference → List ℕ → Plan → List ℕ → List ℕ
plan_line r protein p new = record_line (report_by r p new).found protein (protein_by r p new)

-- n bytes at a buffer's front are l
pub record Line (n : ℕ) (text l : List ℕ) : Type 0 where
  pub fits : n ≤ length text
  pub holds : take n text ≡ l

-- the stage, with the line so far and the letters' buffer
abbrev pub stage_by : Phase → List ℕ → List ℕ → Stage
stage_by Opening l letters = opening l
stage_by (Editing k size) l letters = editing (bare (take size letters) k.cds) l
stage_by Ended l letters = ended

-- a reference that was checked, whose letters are a byte each
pub record KnowsText (s : List ℕ) (k : Known) (protein : List ℕ) : Type 0 where
  pub form : k.form ≡ Bytes
  pub known : Knows text_limits s k no_exceptions protein

-- the buffers hold the letters and R of a reference that was checked
abbrev pub KnownIn : Phase → List ℕ → List ℕ → Type 0
KnownIn Opening letters protein = Unit
KnownIn (Editing k size) letters protein =
    (size ≤ length letters) × (k.residues ≤ length protein) × KnowsText (take size letters) k (take k.residues protein)
KnownIn Ended letters protein = Unit

-- what a stage keeps of its reference: the letters, and R
abbrev pub letters_of : Stage → List ℕ
letters_of (opening l) = []
letters_of (editing r l) = r.letters
letters_of ended = []

abbrev pub protein_of : Stage → List ℕ
protein_of (opening l) = []
protein_of (editing r l) = reference_protein r
protein_of ended = []

-- What a first line leaves that is answered a, and behind which the run stands at x: the answer, the phase, and the letters and R that are kept.
pub record Opens (a : List ℕ) (x : Stage) (p : Phase) (size : ℕ) (letters letters' protein protein' text text' : List ℕ) : Type 0 where
  pub counts : size ≡ length a
  pub prints : text' ≡ over a text
  pub reaches : stage_by p [] letters' ≡ x
  pub known : KnownIn p letters' protein'
  pub keeps-letters : letters' ≡ over (letters_of x) letters
  pub keeps-protein : protein' ≡ over (protein_of x) protein
