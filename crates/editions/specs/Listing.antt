-- The list of two editions.
use Rattle.std.specs.Prelude.{ℕ, List, [], ◌∷◌, ltb, length}
use Rattle.rules.specs.Bytes.{◌↯◌, first_number, Result, unless}
use Rattle.rules.specs.Reference.{Reference}
use Rattle.rules.specs.Editions.{listed}

-- what is left of the comparison where neither reference is refused: the list, or 50
unfoldable pub listing : Reference → Reference → ℕ → Result (List ℕ)
listing r s room = unless (first_number (ltb room (length (listed r s)) ↯ 50 ∷ [])) (listed r s)
