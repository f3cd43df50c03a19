use mathlib.Core.Path.{◌≡◌}
use Prim.Native.Nat.{◌*◌}
use lib.ListN.{length, drop}
use Rattle.rules.specs.Bytes.{each, over}
use Rattle.rules.specs.Names.{three_of}
use Rattle.rules.proofs.Over.{over_from}
use Rattle.names.proofs.write_threes.Given as goal

abbrev pub invariant-loop-i : goal.invariant-loop-i
invariant-loop-i l =
    (length l.out ≡ length l.initial.out) × (over_from (l.i * 3) (each three_of (drop l.i l.one)) l.out ≡ over (each three_of l.one) l.initial.out)
