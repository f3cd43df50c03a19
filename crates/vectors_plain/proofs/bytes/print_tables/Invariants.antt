use Prim.Native.Nat.{◌≤◌, ◌-◌}
use Rattle.vectors_plain.proofs.bytes.print_tables.Given as goal

abbrev pub invariant-loop-table : goal.invariant-loop-table
invariant-loop-table l = l.table ≤ 300

abbrev pub decreases-loop-table : goal.decreases-loop-table
decreases-loop-table l = 300 - l.table
