-- Where a run stands between two bytes of its input: what the line's end makes of that, and what the line is answered.
use Rattle.std.specs.Prelude.{ℕ, zero, suc, List, [], ◌∷◌, Bool, true, false, if◌then◌else◌}
use Rattle.std.proofs.Math.Option.{Option, none, some}
use Rattle.rules.specs.Reference.{Reference}
use Rattle.rules.specs.Refusal.{reference_refusal}
use Rattle.rules.specs.Line.{text_limits, reference_line, fits_line}
use Rattle.rules.specs.Run.{edit_line_answer, answers, unlines}

-- the first line so far; a reference, and the edit line so far; or the run has ended
pub data Stage : Type 0 where
  opening : List ℕ → Stage
  editing : Reference → List ℕ → Stage
  ended : Stage

abbrev pub start : Stage
start = opening []

abbrev pub is_ended : Stage → Bool
is_ended (opening l) = false
is_ended (editing r l) = false
is_ended ended = true

-- a first line's reference, unless it is refused
unfoldable pub accepted_by : ℕ → Reference → Option Reference
accepted_by zero r = some r
accepted_by (suc n) r = none

unfoldable pub accepted : Option Reference → Option Reference
accepted none = none
accepted (some r) = accepted_by (reference_refusal text_limits.longest r) r

-- edits follow a reference that isn't refused
unfoldable pub behind_first : Option Reference → Stage
behind_first none = ended
behind_first (some r) = editing r []

-- behind the line's end
unfoldable pub next_line : Stage → Stage
next_line (opening l) = behind_first (accepted (if fits_line l then reference_line l else none))
next_line (editing r l) = editing r []
next_line ended = ended

-- what the line is answered
unfoldable pub answered : Stage → List ℕ
answered (opening l) = unlines (answers (l ∷ []))
answered (editing r l) = unlines (edit_line_answer r l ∷ [])
answered ended = []
