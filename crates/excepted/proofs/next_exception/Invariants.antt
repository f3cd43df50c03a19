use mathlib.Core.Path.{◌≡◌}
use lib.ListN.{take}
use Rattle.excepted.specs.Exceptions.{next_from}
use Rattle.excepted.proofs.next_exception.Given as goal

abbrev pub invariant-loop-k : goal.invariant-loop-k
invariant-loop-k l = l.next ≡ next_from (take l.k l.e.all) l.n l.past
