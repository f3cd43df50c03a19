use mathlib.Core.Path.{◌≡◌}
use Prim.Native.Nat.{◌≤◌, ◌<◌, ◌-◌}
use lib.ListN.{length}
use Rattle.rules.proofs.Over.{over_from}
use Rattle.vectors_calls.specs.Letters.{filled}
use Rattle.vectors_calls.proofs.given_letters.fill.Given as goal

abbrev pub invariant-loop-i : goal.invariant-loop-i
invariant-loop-i l =
    (l.i ≤ length l.out) × (l.x < 65536) × (length l.out ≡ length l.initial.out) × (over_from l.i (filled l.a l.b l.x (length l.initial.out - l.i)) l.out ≡ filled l.a l.b 1 (length l.initial.out))
