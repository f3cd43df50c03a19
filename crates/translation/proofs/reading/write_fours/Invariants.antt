use mathlib.Core.Path.{◌≡◌}
use mathlib.Core.List.{[]}
use Prim.Native.Nat.{◌*◌}
use lib.ListN.{length}
use Rattle.rules.specs.Bytes.{over}
use Rattle.rules.specs.Translation.{folded_translated}
use Rattle.rules.proofs.Over.{over_from}
use Rattle.places.proofs.Residues.{left_from}
use Rattle.translation.proofs.reading.write_fours.Given as goal

abbrev pub invariant-loop-k : goal.invariant-loop-k
invariant-loop-k g l =
    (length l.out ≡ length l.initial.out) × (over_from (l.k * 4) (left_from l.table [] l.seq (l.k * 4)) l.out ≡ over (folded_translated l.table [] l.seq) l.initial.out)
