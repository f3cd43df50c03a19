-- "Positions and edits": the altered protein A reads from index cs-1, exceptions applied, through the first `*`; with none, to the end,
-- X for a rest.
use Rattle.std.specs.Prelude.{ℕ, ◌-◌, List, drop}
use Rattle.rules.specs.Translation.{translated, through_stop}
use Rattle.rules.specs.Reference.{Reference}
use Rattle.rules.specs.Edit.{Asked}
use Rattle.rules.specs.Altered.{altered_transcript}
use Rattle.rules.specs.Exceptions.{moved_exceptions}

-- of a transcript
unfoldable pub protein_of : Reference → List ℕ → List ℕ
protein_of r new = through_stop (translated r.table (moved_exceptions r new) (drop (r.cs - 1) new))

unfoldable pub altered_protein : Reference → Asked → List ℕ
altered_protein r e = protein_of r (altered_transcript r e)
