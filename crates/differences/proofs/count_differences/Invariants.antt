use mathlib.Core.Path.{◌≡◌}
use mathlib.Core.Bool.{false}
use Prim.Native.Nat.{◌+◌, ◌-◌, ◌≤◌, ◌<◌}
use lib.ListN.{length}
use Rattle.rules.specs.Editions.{is_equal_codon}
use Rattle.alike.specs.Reading.{edition_of}
use Rattle.skips.proofs.Walking.{left}
use Rattle.differences.proofs.count_differences.Given as goal

abbrev pub invariant-loop-n : goal.invariant-loop-n
invariant-loop-n l =
    (1 ≤ l.n) × (l.n ≤ l.past) × (l.count < l.n)
    × (l.count + length (left (edition_of l.first l.r) (edition_of l.second l.s) l.past l.n) ≡ length (left (edition_of l.first l.r) (edition_of l.second l.s) l.past 1))
    × (l.n < l.past → is_equal_codon (edition_of l.first l.r) (edition_of l.second l.s) l.n ≡ false)

abbrev pub decreases-loop-n : goal.decreases-loop-n
decreases-loop-n l = l.past - l.n
