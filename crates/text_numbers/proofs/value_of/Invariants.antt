use mathlib.Core.Path.{◌≡◌}
use lib.ListN.{drop}
use Rattle.rules.specs.Number.{value, value_from}
use Rattle.text_numbers.proofs.value_of.Given as goal

abbrev pub invariant-loop-b : goal.invariant-loop-b
invariant-loop-b l = value l.s ≡ value_from l.v (drop l.b-index l.s)
