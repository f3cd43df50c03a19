use mathlib.Core.Path.{◌≡◌}
use Prim.Native.Nat.{◌-◌, ◌≤◌}
use lib.ListN.{take}
use Rattle.rules.specs.Bytes.{byte, count}
use Rattle.rules.specs.Reference.{codons, reference_protein}
use Rattle.rules.specs.Views.{reference_of}
use Rattle.letters.specs.Sets.{HoldsSets, folded_set}
use Rattle.codons.specs.Tables.{HoldsCode}
use Rattle.parts.specs.Parts.{in_parts}
use Rattle.parts.proofs.late.has_no_stop.Given as goal

abbrev pub invariant-loop-k : goal.invariant-loop-k
invariant-loop-k l =
    (l.k ≤ l.whole)
    × (l.whole ≡ codons (reference_of (in_parts l.a l.b l.c) l.cds l.e))
    × HoldsSets folded_set l.sets
    × HoldsCode l.cds.table l.residues
    × (count (byte "*") (take l.k (reference_protein (reference_of (in_parts l.a l.b l.c) l.cds l.e))) ≡ 0)

abbrev pub decreases-loop-k : goal.decreases-loop-k
decreases-loop-k l = l.whole - l.k
