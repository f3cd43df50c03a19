use Rattle.rows.proofs.Rowed.{Laid}
use Rattle.rows.proofs.lay_residues.Given as goal

abbrev pub invariant-loop-c : goal.invariant-loop-c
invariant-loop-c l = Laid l.rows l.all l.c
