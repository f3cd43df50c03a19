use mathlib.Core.Path.{◌≡◌}
use mathlib.Core.List.{[]}
use Prim.Native.Nat.{◌-◌, ◌/◌, ◌≤◌}
use lib.ListN.{length}
use Rattle.rules.specs.Translation.{folded_translated, through_stop}
use Rattle.walks.proofs.Walks.{Walk}
use Rattle.walks.proofs.write_plain_to_stop.Given as goal

abbrev pub invariant-loop-i : goal.invariant-loop-i
invariant-loop-i l = (l.i ≤ length l.seq / 3) × Walk l.table [] l.seq (through_stop (folded_translated l.table [] l.seq)) l.initial.out l.out l.i × (l.looked ≡ l.i)

abbrev pub decreases-loop-i : goal.decreases-loop-i
decreases-loop-i l = length l.seq / 3 - l.i
