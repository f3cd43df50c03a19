use mathlib.Core.Path.{◌≡◌}
use Prim.Native.Nat.{◌+◌, ◌≤◌}
use lib.ListN.{drop}
use Rattle.rules.specs.Bytes.{byte, count}
use Rattle.reference.proofs.protein.block_stops.Given as goal

abbrev pub invariant-loop-residue : goal.invariant-loop-residue
invariant-loop-residue l = (l.stops ≤ l.residue-index) × (l.stops + count (byte "*") (drop l.residue-index l.s) ≡ count (byte "*") l.s)
