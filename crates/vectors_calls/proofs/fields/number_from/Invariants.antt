use mathlib.Core.Path.{◌≡◌}
use Prim.Native.Nat.{◌-◌}
use lib.ListN.{length, drop}
use Rattle.vectors_calls.specs.Fields.{number_from}
use Rattle.vectors_calls.proofs.fields.number_from.Given as goal

abbrev pub invariant-loop-i : goal.invariant-loop-i
invariant-loop-i l = number_from l.n (drop l.i l.s) ≡ number_from 0 (drop l.from l.s)
