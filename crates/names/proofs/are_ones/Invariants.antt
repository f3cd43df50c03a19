use mathlib.Core.Path.{◌≡◌}
use lib.ListN.{drop}
use Rattle.rules.specs.Bytes.{all}
use Rattle.names.specs.Rows.{is_one}
use Rattle.names.proofs.are_ones.Given as goal

abbrev pub invariant-loop-i : goal.invariant-loop-i
invariant-loop-i l = all is_one (drop l.i l.one) ≡ all is_one l.one
