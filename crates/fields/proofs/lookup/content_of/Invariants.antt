use Prim.Native.Nat.{◌-◌}
use lib.ListN.{length}
use Rattle.fields.proofs.Places.{Looking}
use Rattle.fields.proofs.lookup.content_of.Given as goal

abbrev pub invariant-loop-met : goal.invariant-loop-met
invariant-loop-met l = Looking l.tag l.s l.at

abbrev pub decreases-loop-met : goal.decreases-loop-met
decreases-loop-met l = length l.s - l.at
