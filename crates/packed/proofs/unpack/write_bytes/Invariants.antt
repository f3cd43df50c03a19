use mathlib.Core.Path.{◌≡◌}
use Prim.Native.Nat.{◌+◌, ◌*◌}
use lib.ListN.{length, drop}
use Rattle.rules.specs.Altered.{part}
use Rattle.rules.proofs.Over.{over_from}
use Rattle.rules.specs.Packed.{letters_in}
use Rattle.packed.proofs.unpack.write_bytes.Given as goal

abbrev pub invariant-loop-k : goal.invariant-loop-k
invariant-loop-k l =
    (length l.out ≡ length l.initial.out) × (over_from (l.done + l.k * 2) (drop (l.done + l.k * 2) (part l.from l.to (letters_in l.packed))) l.out ≡ over_from l.done (drop l.done (part l.from l.to (letters_in l.packed))) l.initial.out)
