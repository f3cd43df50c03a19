use mathlib.Core.Path.{◌≡◌}
use Rattle.stored_fields.proofs.Held.{held_first}
use Rattle.stored_fields.proofs.exceptions.exceptions_in.Given as goal

abbrev pub invariant-loop-i : goal.invariant-loop-i
invariant-loop-i l = l.all ≡ held_first l.s l.i
