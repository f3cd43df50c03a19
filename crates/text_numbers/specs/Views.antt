-- What a parser's answer says in document 01's terms: a number, with what stands behind it in the line; and the place where that begins, 0 where
-- nothing was read.
use Rattle.std.specs.Prelude.{ℕ, List, drop, None, Some}
use Rattle.std.specs.Prelude.{Option as Returned}
use Rattle.std.proofs.Math.Option.{Option, none, some}
use Rattle.rules.specs.Number.{Numbered}
use Rattle.text_numbers.specs.declared.NumberAt.{NumberAt}

abbrev pub number_in : List ℕ → Returned NumberAt → Option Numbered
number_in line None = none
number_in line (Some n) = some (record { number = n.value; rest = drop n.next line })

abbrev pub number_next : Returned NumberAt → ℕ
number_next None = 0
number_next (Some n) = n.next
