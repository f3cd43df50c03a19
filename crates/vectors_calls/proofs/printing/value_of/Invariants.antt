use mathlib.Core.Path.{◌≡◌}
use Prim.Native.Nat.{◌-◌, ◌<◌}
use lib.ListN.{length, drop}
use Rattle.vectors_calls.specs.Printed.{check_from}
use Rattle.vectors_calls.proofs.printing.value_of.Given as goal

abbrev pub invariant-loop-i : goal.invariant-loop-i
invariant-loop-i l = (l.x < 1000003) × (check_from l.x (drop l.i l.s) ≡ check_from 0 l.s)
