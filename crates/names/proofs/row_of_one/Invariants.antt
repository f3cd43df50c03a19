use mathlib.Core.Path.{◌≡◌}
use Prim.Native.Nat.{◌*◌}
use lib.ListN.{drop}
use Rattle.rules.specs.Names.{three_of}
use Rattle.names.proofs.Laws.{three_from}
use Rattle.names.proofs.row_of_one.Given as goal

abbrev pub invariant-loop-k : goal.invariant-loop-k
invariant-loop-k l = three_from (drop (l.k * 4) l.names) l.one ≡ three_of l.one
