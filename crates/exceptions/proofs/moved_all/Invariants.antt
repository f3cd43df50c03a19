use mathlib.Core.Path.{◌≡◌}
use mathlib.Core.List.{List}
use Prim.Native.Nat.{ℕ, ◌≤◌}
use lib.ListN.{length, take}
use Rattle.rules.specs.Exceptions.{moved_all}
use Rattle.exceptions.specs.Moving.{Shared}
use Rattle.exceptions.proofs.moved_all.Given as goal

abbrev pub invariant-loop-x : goal.invariant-loop-x
invariant-loop-x l =
    (l.count ≤ l.x-index)
    × (length l.all ≡ 16)
    × ((old new : List ℕ) → Shared l.prefix l.suffix l.size l.made old new → take l.count l.all ≡ moved_all l.prefix l.first old new (take l.x-index l.given))
