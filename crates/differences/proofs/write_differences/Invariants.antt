use mathlib.Core.Path.{◌≡◌}
use mathlib.Core.Bool.{false}
use mathlib.Core.List.{List}
use Prim.Native.Nat.{ℕ, ◌-◌, ◌≤◌, ◌<◌}
use lib.ListN.{length, take, drop}
use Rattle.rules.specs.Bytes.{each, over}
use Rattle.rules.specs.Editions.{is_equal_codon, difference_bytes}
use Rattle.alike.specs.declared.Edition.{Edition}
use Rattle.alike.specs.Reading.{edition_of}
use Rattle.skips.proofs.Walking.{left}
use Rattle.differences.proofs.write_differences.Given as goal

-- the bytes of the differences from codon n on
abbrev pub bytes_from : List ℕ → Edition → List ℕ → Edition → ℕ → ℕ → List ℕ
bytes_from first r second s past n = each difference_bytes (left (edition_of first r) (edition_of second s) past n)

abbrev pub invariant-loop-n : goal.invariant-loop-n
invariant-loop-n l =
    (1 ≤ l.n) × (l.n ≤ l.past) × (l.n < l.past → is_equal_codon (edition_of l.first l.r) (edition_of l.second l.s) l.n ≡ false)
    × (l.at ≤ length (bytes_from l.first l.r l.second l.s l.past 1))
    × (drop l.at (bytes_from l.first l.r l.second l.s l.past 1) ≡ bytes_from l.first l.r l.second l.s l.past l.n)
    × (l.out ≡ over (take l.at (bytes_from l.first l.r l.second l.s l.past 1)) l.initial.out)
    × (length l.out ≡ length l.initial.out)

abbrev pub decreases-loop-n : goal.decreases-loop-n
decreases-loop-n l = l.past - l.n
