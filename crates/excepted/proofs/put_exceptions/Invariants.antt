use mathlib.Core.Path.{◌≡◌}
use mathlib.Core.List.{◌++◌}
use lib.ListN.{take, drop}
use Rattle.excepted.specs.Exceptions.{excepted_from}
use Rattle.excepted.proofs.put_exceptions.Given as goal

abbrev pub invariant-loop-k : goal.invariant-loop-k
invariant-loop-k l = l.out ≡ excepted_from (take l.k l.e.all) 1 (take l.whole l.initial.out) ++ drop l.whole l.initial.out
