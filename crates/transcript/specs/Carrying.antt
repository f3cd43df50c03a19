-- The transcript that a plan makes, and what is known of a plan where it is written.
use Rattle.std.specs.Prelude.{ℕ, ◌+◌, ◌-◌, ◌≤◌, ◌≡◌, true, List, length}
use Rattle.rules.specs.Bytes.{all}
use Rattle.rules.specs.Letters.{is_letter}
use Rattle.rules.specs.Altered.{carried}
use Rattle.edits.specs.declared.plans.Plan.{Plan}
use Rattle.edits.specs.Plans.{source_bytes, goes_in}

-- the bases from..to give way to what goes in
unfoldable pub carried_by : Plan → List ℕ → List ℕ → List ℕ
carried_by p letters new = carried (record { from = p.from; to = p.to; put = goes_in p letters new }) letters

-- what goes in is the beginning of a source of letters
pub record Sourced (p : Plan) (letters new : List ℕ) : Type 0 where
  pub letters-are : all is_letter letters ≡ true
  pub rising : p.start ≤ p.end
  pub ends : p.end ≤ length letters
  pub kept : p.kept ≤ length (source_bytes p.source p.start p.end letters new)

-- the bases from..to are of the transcript, and there is room for the kept prefix, for what goes in and for the tail
pub record Fits (p : Plan) (letters new : List ℕ) (room : ℕ) : Type 0 where
  pub source : Sourced p letters new
  pub rising : p.from ≤ p.to
  pub ends : p.to ≤ length letters
  pub written : p.from + (p.kept + (length letters - p.to)) ≤ room
