-- What is decided of an edit whose record is checked.
use Rattle.std.specs.Prelude.{ℕ, zero, suc, ◌≡◌, Bool, true, false, List}
use Rattle.rules.specs.declared.Edit.{Edit}
use Rattle.rules.specs.declared.Exceptions.{Exceptions}
use Rattle.rules.specs.Bytes.{Result, given, refused}
use Rattle.rules.specs.Reference.{Reference, reference_protein}
use Rattle.rules.specs.Edit.{Asked}
use Rattle.rules.specs.Protein.{altered_protein}
use Rattle.rules.specs.Record.{is_unknown}
use Rattle.rules.specs.Refusal.{limits, refusal, Room, room_refusal}
use Rattle.rules.specs.Check.{is_changed}
use Rattle.rules.specs.Views.{asked, reference_of}
use Rattle.reference.specs.declared.Known.{Known}
use Rattle.reference.specs.Known.{Knows}
use Rattle.edits.specs.declared.plans.Plan.{Plan}
use Rattle.edits.specs.Plans.{plan_of}

-- 7 to 10, 26 for an Unknown, 11 and 12, 26 where the answer isn't Changed, else what the edit does
unfoldable pub changing_by : ℕ → Bool → ℕ → Bool → Plan → Result Plan
changing_by (suc n) unknown room changed p = refused (suc n)
changing_by zero true room changed p = refused 26
changing_by zero false (suc n) changed p = refused (suc n)
changing_by zero false zero false p = refused 26
changing_by zero false zero true p = given p

unfoldable pub changing_in : Reference → Asked → Room → Result Plan
changing_in r a room =
    changing_by (refusal limits r a) (is_unknown r a) (room_refusal r a room) (is_changed (reference_protein r) (altered_protein r a)) (plan_of r a)

-- the plan of an accepted edit, not Unknown, of a checked reference
pub record Changes (s : List ℕ) (k : Known) (e : Exceptions) (protein : List ℕ) (p : Plan) (new : List ℕ) : Type 0 where
  pub known : Knows limits s k e protein
  pub edit : Edit
  pub allowed : refusal limits (reference_of s k.cds e) (asked edit new) ≡ 0
  pub told : is_unknown (reference_of s k.cds e) (asked edit new) ≡ false
  pub is : p ≡ plan_of (reference_of s k.cds e) (asked edit new)
