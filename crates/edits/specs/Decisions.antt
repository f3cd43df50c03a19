-- What is decided of an edit of a checked reference before a byte is written.
use Rattle.std.specs.Prelude.{ℕ, Bool, ◌||◌, Option, Some, None, if◌then◌else◌}
use Rattle.rules.specs.Bytes.{first_number, Result, unless}
use Rattle.rules.specs.Reference.{Reference}
use Rattle.rules.specs.Edit.{Asked, ends_past, edit_tests}
use Rattle.edits.specs.declared.plans.Plan.{Plan}
use Rattle.edits.specs.Plans.{plan_of}

-- 7 to 10, else nothing where R has several stops or the end lies behind the transcript: Unknown, else what the edit does
unfoldable pub decision_of : ℕ → Bool → Reference → Asked → Result (Option Plan)
decision_of most several r e =
    unless (first_number (edit_tests most r e)) (if several || ends_past r e then None else Some (plan_of r e))
