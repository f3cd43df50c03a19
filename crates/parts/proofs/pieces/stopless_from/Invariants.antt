use lib.ListN.{drop}
use Rattle.parts.specs.Parts.{Stopless}
use Rattle.parts.proofs.pieces.stopless_from.Given as goal

abbrev pub invariant-loop-i : goal.invariant-loop-i
invariant-loop-i l = Stopless l.table (drop l.at l.part) l.i
