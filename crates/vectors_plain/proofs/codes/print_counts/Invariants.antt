use Prim.Native.Nat.{◌≤◌, ◌-◌}
use Rattle.vectors_plain.proofs.codes.print_counts.Given as goal

abbrev pub invariant-loop-b : goal.invariant-loop-b
invariant-loop-b l = l.b ≤ 91

abbrev pub decreases-loop-b : goal.decreases-loop-b
decreases-loop-b l = 91 - l.b
