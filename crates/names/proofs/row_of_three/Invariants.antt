use mathlib.Core.Path.{◌≡◌}
use mathlib.Core.List.{[], ◌∷◌}
use Prim.Native.Nat.{◌*◌}
use lib.ListN.{drop}
use Rattle.rules.specs.Names.{one_of}
use Rattle.names.proofs.Laws.{one_from}
use Rattle.names.proofs.row_of_three.Given as goal

abbrev pub invariant-loop-k : goal.invariant-loop-k
invariant-loop-k l = one_from (drop (l.k * 4) l.names) (l.a ∷ l.b ∷ l.c ∷ []) ≡ one_of (l.a ∷ l.b ∷ l.c ∷ [])
