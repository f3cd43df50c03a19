use mathlib.Core.Path.{◌≡◌}
use Prim.Native.Nat.{◌-◌}
use lib.ListN.{length, take}
use Rattle.rules.specs.Bytes.{over}
use Rattle.rules.specs.Complement.{reverse_complement}
use Rattle.rules.proofs.Over.{over_from}
use Rattle.sequences.proofs.complement.write_reversed.Given as goal

abbrev pub invariant-loop-i : goal.invariant-loop-i
invariant-loop-i l =
    (length l.out ≡ length l.initial.out)
    × (over_from l.i (reverse_complement (take (length l.seq - l.i) l.seq)) l.out ≡ over (reverse_complement l.seq) l.initial.out)
