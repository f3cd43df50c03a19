use mathlib.Core.Path.{◌≡◌}
use Prim.Native.Nat.{◌≤◌, ◌-◌}
use lib.ListN.{length}
use Rattle.rules.proofs.Over.{over_from}
use Rattle.vectors_plain.specs.Rows.{letters_from}
use Rattle.vectors_plain.proofs.codes.put_codons.Given as goal

abbrev pub invariant-loop-j : goal.invariant-loop-j
invariant-loop-j l =
    (l.j ≤ 10125) × (length l.seq ≡ 10125) × (over_from l.j (letters_from l.j (10125 - l.j)) l.seq ≡ letters_from 0 10125)

abbrev pub decreases-loop-j : goal.decreases-loop-j
decreases-loop-j l = 10125 - l.j
