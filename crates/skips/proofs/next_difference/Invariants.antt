use mathlib.Core.Path.{◌≡◌}
use Prim.Native.Nat.{◌-◌, ◌≤◌}
use Rattle.alike.specs.Reading.{edition_of}
use Rattle.skips.proofs.Walking.{left}
use Rattle.skips.proofs.next_difference.Given as goal

abbrev pub invariant-loop-m : goal.invariant-loop-m
invariant-loop-m l =
    (l.n ≤ l.m) × (l.m ≤ l.past) × (left (edition_of l.first l.r) (edition_of l.second l.s) l.past l.n ≡ left (edition_of l.first l.r) (edition_of l.second l.s) l.past l.m)

abbrev pub decreases-loop-m : goal.decreases-loop-m
decreases-loop-m l = l.past - l.m
