use mathlib.Core.Path.{◌≡◌}
use Prim.Native.Nat.{◌+◌, ◌-◌, ◌≤◌}
use lib.ListN.{length}
use Rattle.rules.specs.Bytes.{over}
use Rattle.rules.specs.Altered.{part}
use Rattle.rules.specs.Complement.{reverse_complement}
use Rattle.rules.specs.Packed.{letters_in}
use Rattle.packed.proofs.turned.write_turned.Given as goal

abbrev pub invariant-loop-p : goal.invariant-loop-p
invariant-loop-p l =
    (l.from ≤ l.p) × (l.i + l.p ≡ l.to) × (length l.out ≡ length l.initial.out) × (l.out ≡ over (reverse_complement (part l.p l.to (letters_in l.packed))) l.initial.out)

abbrev pub decreases-loop-p : goal.decreases-loop-p
decreases-loop-p l = l.p - l.from
