-- The altered transcript alone, with the longest edit of a call.
use Rattle.std.specs.Prelude.{ℕ}
use Rattle.rules.specs.Bytes.{refused}
use Rattle.rules.specs.Reference.{Reference}
use Rattle.rules.specs.Edit.{Asked}
use Rattle.rules.specs.Longest.{with_longest}
use Rattle.altseq.specs.Transcribing.{Edited, unwritten, edited}

unfoldable pub edited_within : ℕ → Reference → Asked → ℕ → Edited
edited_within n r e room = with_longest n (unwritten (refused 62)) (λ m. edited m r e room)
