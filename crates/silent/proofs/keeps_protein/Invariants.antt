use mathlib.Core.Path.{◌≡◌}
use Prim.Native.Nat.{◌-◌, ◌/◌, ◌≤◌}
use lib.ListN.{drop}
use Rattle.rules.specs.Bytes.{same}
use Rattle.rules.specs.Translation.{exception_list}
use Rattle.rules.proofs.Silent.{same_from}
use Rattle.transcript.specs.Carrying.{carried_by}
use Rattle.silent.specs.Comparing.{protein_with}
use Rattle.rules.specs.Packed.{letters_by}
use Rattle.silent.proofs.keeps_protein.Given as goal

abbrev pub invariant-loop-k : goal.invariant-loop-k
invariant-loop-k l =
    (same_from l.c.table (exception_list l.moved) (drop (l.c.cs - 1) (carried_by l.plan (letters_by l.form l.letters) l.new)) l.protein l.k ≡ same l.protein (protein_with l.c l.moved l.plan (letters_by l.form l.letters) l.new))
    × (l.k ≤ (l.plan.length - (l.c.cs - 1)) / 3)
    × (l.start ≤ l.k)

abbrev pub decreases-loop-k : goal.decreases-loop-k
decreases-loop-k l = (l.plan.length - (l.c.cs - 1)) / 3 - l.k
