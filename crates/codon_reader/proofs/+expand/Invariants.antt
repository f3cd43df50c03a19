-- The loop has joined the residues of the bases passed; what is left to join at its head gives what the whole letter gives.
use Rattle.std.proofs.Common.{◌-◌, ◌≡◌, ◌+◌, ◌*◌}
use Rattle.rules.specs.Codons.{for_each}
use Rattle.codon_reader.specs.Expansion.{expanded, joined_all}
use Rattle.codon_reader.proofs.Expanded.{bases_from}
use Rattle.codon_reader.proofs.+expand.Given as goal

abbrev pub decreases-expand : goal.decreases-expand
decreases-expand l = l.left

abbrev pub invariant-loop-base : goal.invariant-loop-base
invariant-loop-base l =
    joined_all l.all (for_each (bases_from l.letter l.base (4 - l.base)) λ i. expanded (l.left - 1) l.table l.sets (l.place * 4 + i))
    ≡ joined_all l.found (expanded l.left l.table l.sets l.place)
