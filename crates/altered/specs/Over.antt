-- What is known of a plan that is read over, and not written.
use Rattle.std.specs.Prelude.{ℕ, ◌+◌, ◌≤◌, ◌<◌, ◌≡◌, true, List, length}
use Rattle.rules.specs.Bytes.{all}
use Rattle.rules.specs.Letters.{is_letter}
use Rattle.edits.specs.declared.plans.Plan.{Plan}
use Rattle.transcript.specs.Carrying.{Sourced, carried_by}

-- the bases from..to are of the transcript, the new bases are letters, and sums of lengths fit
pub record Makes (p : Plan) (letters new : List ℕ) : Type 0 where
  pub source : Sourced p letters new
  pub rising : p.from ≤ p.to
  pub ends : p.to ≤ length letters
  pub old-short : length letters < 4294967296
  pub new-short : length (carried_by p letters new) < 4294967296
  pub new-letters : all is_letter new ≡ true

-- n letters from a place on lie in what goes in, or behind it
pub record Stretch (p : Plan) (at n made : ℕ) : Type 0 where
  pub behind : p.from ≤ at
  pub inside : at < p.from + p.kept → at + n ≤ p.from + p.kept
  pub ends : at + n ≤ made

-- so many letters from a place on, at least one and at most `most`, of what goes in or behind it
pub record Within (p : Plan) (at most n : ℕ) : Type 0 where
  pub few : n ≤ most
  pub some : 0 < most → 0 < n
  pub inside : at < p.from + p.kept → at + n ≤ p.from + p.kept
