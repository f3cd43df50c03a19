use Rattle.rows.proofs.Rowed.{Put}
use Rattle.rows.proofs.put_third.Given as goal

abbrev pub invariant-loop-k : goal.invariant-loop-k
invariant-loop-k l = Put l.rows l.initial.all l.all l.c l.k
