use mathlib.Core.Path.{◌≡◌}
use Prim.Native.Nat.{◌≤◌, ◌-◌, min}
use lib.ListN.{length}
use Rattle.vectors_calls.specs.Given.{exceptions_of}
use Rattle.vectors_calls.proofs.Rows.{stored}
use Rattle.vectors_calls.proofs.given_exceptions.exceptions_of.Given as goal

abbrev pub invariant-loop-i : goal.invariant-loop-i
invariant-loop-i l =
    (l.i ≤ l.stored) × (l.stored ≡ min l.count 16) × (length l.all ≡ 16) × (stored l.line l.first l.count l.i l.stored l.all ≡ (exceptions_of l.line l.first l.count).all)
