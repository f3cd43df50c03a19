-- A proposed record of a number and two lent byte strings.
use Rattle.std.specs.Prelude.{ℕ, List}
use Rattle.rules.specs.Check.{Proposal}

abbrev pub proposed : ℕ → List ℕ → List ℕ → Proposal
proposed number deleted inserted = record { number = number; deleted = deleted; inserted = inserted }
