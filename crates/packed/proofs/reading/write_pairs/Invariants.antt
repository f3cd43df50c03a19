use mathlib.Core.Path.{◌≡◌}
use mathlib.Core.List.{[]}
use Prim.Native.Nat.{◌+◌, ◌*◌}
use lib.ListN.{length}
use Rattle.rules.proofs.Over.{over_from}
use Rattle.places.proofs.Residues.{left_from}
use Rattle.packed.specs.Halves.{codons_at}
use Rattle.packed.proofs.reading.write_pairs.Given as goal

abbrev pub invariant-loop-k : goal.invariant-loop-k
invariant-loop-k l =
    (length l.out ≡ length l.initial.out) × (over_from (l.done + l.k * 2) (left_from l.table [] (codons_at l.first l.codons l.packed) (l.done + l.k * 2)) l.out ≡ over_from l.done (left_from l.table [] (codons_at l.first l.codons l.packed) l.done) l.initial.out)
