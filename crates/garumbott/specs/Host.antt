-- A host's reference and edit, and what a host is told of an outcome.
use Rattle.std.specs.Prelude.{ℕ, ◌%◌, ◌≡◌, Bool, not, List, [], ◌∷◌, eqb, ℤ, length, if◌then◌else◌}
use Rattle.rules.specs.declared.Exception.{Exception}
use Rattle.rules.specs.Bytes.{over}
use Rattle.rules.specs.Translation.{no_exception}
use Rattle.rules.specs.Reference.{Reference}
use Rattle.rules.specs.Edit.{Asked}
use Rattle.rules.specs.Stored.{exceptions_in}
use Rattle.rules.specs.Packed.{letters_by, form_at}
use Rattle.rules.specs.Answer.{Outcome}
use Rattle.rules.specs.Check.{CheckOutcome}
use Rattle.rules.specs.Pair.{PairOutcome}
use Rattle.host_given.specs.Given.{edit_at}
use Rattle.host_told.specs.declared.GarumbottAnswer.{GarumbottAnswer}
use Rattle.host_told.specs.declared.GarumbottChecked.{GarumbottChecked}
use Rattle.host_told.specs.declared.GarumbottPaired.{GarumbottPaired}
use Rattle.host_told.specs.Told.{answer_of, checked_of, paired_of}

abbrev pub host_asked : ℕ → ℕ → ℤ → ℕ → ℤ → List ℕ → Asked
host_asked kind start_star start end_star end bases = record { edit = edit_at kind start_star start end_star end; new = bases }

-- exceptions in the stored form. Bytes that aren't three each are none; they stand as an exception that breaks the rules, which is refused with 5
unfoldable pub exceptions_at : List ℕ → List Exception
exceptions_at s = if eqb (length s % 3) 0 then exceptions_in s else (no_exception ∷ [])

-- the letters are those that the bytes hold in their form
abbrev pub host_reference : List ℕ → ℕ → ℕ → ℕ → List ℕ → ℕ → ℕ → ℕ → Reference
host_reference letters cs ce table exceptions end form size =
    record { letters = letters_by (form_at form size) letters; cs = cs; ce = ce; table = table; exceptions = exceptions_at exceptions; end = end }

-- 0 or not 0
abbrev pub is_set : ℕ → Bool
is_set n = not (eqb n 0)

-- the answer is the outcome's, and each buffer is what it was under what the outcome writes
pub record Tells (o : Outcome) (r : GarumbottAnswer) (transcript transcript' reference reference' altered altered' : List ℕ) : Type 0 where
  pub says : r ≡ answer_of o.answer
  pub holds-transcript : transcript' ≡ over o.transcript transcript
  pub holds-reference : reference' ≡ over o.reference reference
  pub holds-altered : altered' ≡ over o.altered altered

-- the same of a proposed record
pub record Judges (o : CheckOutcome) (r : GarumbottChecked) (transcript transcript' reference reference' altered altered' : List ℕ) : Type 0 where
  pub says : r ≡ checked_of o.answer
  pub holds-transcript : transcript' ≡ over o.transcript transcript
  pub holds-reference : reference' ≡ over o.reference reference
  pub holds-altered : altered' ≡ over o.altered altered

-- the same of a pair, with two buffers
pub record Joins (o : PairOutcome) (r : GarumbottPaired) (transcript transcript' altered altered' : List ℕ) : Type 0 where
  pub says : r ≡ paired_of o.answer
  pub holds-transcript : transcript' ≡ over o.transcript transcript
  pub holds-altered : altered' ≡ over o.altered altered
