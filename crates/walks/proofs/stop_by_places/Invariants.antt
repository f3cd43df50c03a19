use mathlib.Core.Path.{◌≡◌}
use mathlib.Core.List.{[]}
use Rattle.rules.specs.Translation.{before_stop, whole_codons, folded_translated}
use Rattle.walks.proofs.Walks.{stops_from}
use Rattle.walks.proofs.stop_by_places.Given as goal

abbrev pub invariant-loop-i : goal.invariant-loop-i
invariant-loop-i l = stops_from l.table [] l.seq l.i ≡ before_stop (folded_translated l.table [] (whole_codons l.seq))
