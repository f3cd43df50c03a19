use mathlib.Core.Path.{◌≡◌}
use Prim.Native.Nat.{◌*◌}
use lib.ListN.{drop}
use Rattle.rules.specs.Bytes.{all}
use Rattle.rules.specs.Names.{threes}
use Rattle.names.specs.Rows.{is_three}
use Rattle.names.proofs.are_threes.Given as goal

abbrev pub invariant-loop-i : goal.invariant-loop-i
invariant-loop-i l = all is_three (threes (drop (l.i * 3) l.three)) ≡ all is_three (threes l.three)
