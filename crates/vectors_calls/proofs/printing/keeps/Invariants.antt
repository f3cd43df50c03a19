use mathlib.Core.Path.{◌≡◌}
use Prim.Native.Nat.{◌-◌}
use lib.ListN.{length, drop}
use Rattle.rules.specs.Bytes.{all}
use Rattle.vectors_calls.specs.Printed.{is_marker}
use Rattle.vectors_calls.proofs.printing.keeps.Given as goal

abbrev pub invariant-loop-i : goal.invariant-loop-i
invariant-loop-i l = all is_marker (drop l.i l.s) ≡ all is_marker (drop l.from l.s)
