use mathlib.Core.Path.{◌≡◌}
use Prim.Native.Nat.{◌+◌, ◌-◌, ◌≤◌, min}
use lib.ListN.{length, take}
use Rattle.rules.specs.Trims.{common_suffix}
use Rattle.rules.specs.Altered.{part}
use Rattle.rules.specs.Packed.{letters_in}
use Rattle.packed.proofs.compare.part_suffix_len.Given as goal

abbrev pub invariant-loop-left : goal.invariant-loop-left
invariant-loop-left l =
    (l.left ≤ l.n) × (l.n ≡ min (l.to - l.from) (length l.new)) × (l.p + l.n ≡ l.to + l.left) × (l.q + l.n ≡ length l.new + l.left) × (common_suffix (part l.from l.to (letters_in l.packed)) l.new ≡ l.n - l.left + common_suffix (part l.from l.p (letters_in l.packed)) (take l.q l.new))

abbrev pub decreases-loop-left : goal.decreases-loop-left
decreases-loop-left l = l.left
