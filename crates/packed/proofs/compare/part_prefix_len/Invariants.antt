use mathlib.Core.Path.{◌≡◌}
use Prim.Native.Nat.{◌+◌, ◌-◌, ◌≤◌}
use lib.ListN.{drop}
use Rattle.rules.specs.Trims.{common_prefix}
use Rattle.rules.specs.Altered.{part}
use Rattle.rules.specs.Packed.{letters_in}
use Rattle.packed.proofs.compare.part_prefix_len.Given as goal

abbrev pub invariant-loop-i : goal.invariant-loop-i
invariant-loop-i l =
    (l.i ≤ l.n) × (common_prefix (part l.from l.to (letters_in l.packed)) l.new ≡ l.i + common_prefix (drop l.i (part l.from l.to (letters_in l.packed))) (drop l.i l.new))

abbrev pub decreases-loop-i : goal.decreases-loop-i
decreases-loop-i l = l.n - l.i
