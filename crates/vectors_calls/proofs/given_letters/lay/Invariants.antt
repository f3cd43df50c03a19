use mathlib.Core.Path.{◌≡◌}
use mathlib.Core.List.{◌++◌}
use Prim.Native.Nat.{◌≤◌, ◌-◌, min}
use lib.ListN.{length, take, drop}
use Rattle.vectors_calls.specs.Letters.{laid}
use Rattle.vectors_calls.proofs.given_letters.lay.Given as goal

abbrev pub invariant-loop-i : goal.invariant-loop-i
invariant-loop-i l =
    (l.i ≤ l.n) × (l.n ≡ min (length l.initial.out) (length l.letters)) × (length l.out ≡ length l.initial.out) × (take l.i l.out ++ laid (drop l.i l.letters) (drop l.i l.out) ≡ laid l.letters l.initial.out)
