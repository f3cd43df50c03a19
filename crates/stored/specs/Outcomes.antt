-- What an edit of a stored reference is answered.
use Rattle.rules.specs.declared.Limits.{Limits}
use Rattle.rules.specs.Bytes.{Result, given, refused}
use Rattle.rules.specs.Reference.{Reference}
use Rattle.rules.specs.Edit.{Asked}
use Rattle.rules.specs.Refusal.{Room}
use Rattle.rules.specs.Answer.{Outcome, writes_nothing, outcome}

-- the refusal of the reference, else what the edit of it is answered
unfoldable pub outcome_of : Limits → Result Reference → Asked → Room → Outcome
outcome_of m (refused n) e room = writes_nothing (refused n)
outcome_of m (given r) e room = outcome m r e room
