use mathlib.Core.Path.{◌≡◌}
use mathlib.Core.List.{[]}
use lib.ListN.{length}
use Rattle.rules.proofs.Over.{over_from}
use Rattle.places.proofs.Residues.{left_from}
use Rattle.translation.proofs.reading.write_left.Given as goal

abbrev pub invariant-loop-i : goal.invariant-loop-i
invariant-loop-i g l =
    (length l.out ≡ length l.initial.out) × (over_from l.i (left_from l.table [] l.seq l.i) l.out ≡ over_from l.done (left_from l.table [] l.seq l.done) l.initial.out)
