use mathlib.Core.Path.{◌≡◌}
use mathlib.Core.Bool.{true}
use Prim.Native.Nat.{◌*◌}
use lib.ListN.{length, drop}
use Rattle.rules.specs.Bytes.{all, each, over}
use Rattle.rules.specs.Names.{one_of, threes}
use Rattle.rules.proofs.Over.{over_from}
use Rattle.names.specs.Rows.{is_three}
use Rattle.names.proofs.write_ones.Given as goal

abbrev pub invariant-loop-i : goal.invariant-loop-i
invariant-loop-i l =
    (length l.out ≡ length l.initial.out)
    × (all is_three (threes (drop (l.i * 3) l.three)) ≡ true)
    × (over_from l.i (each one_of (threes (drop (l.i * 3) l.three))) l.out ≡ over (each one_of (threes l.three)) l.initial.out)
