use mathlib.Core.Path.{◌≡◌}
use Prim.Native.Nat.{◌+◌, ◌-◌, ◌≤◌, min}
use lib.ListN.{length, drop}
use Rattle.rules.specs.Packed.{letters_by}
use Rattle.rules.specs.Trims.{common_prefix}
use Rattle.transcript.specs.Carrying.{carried_by}
use Rattle.altered.proofs.shared_front.Given as goal

abbrev pub invariant-loop-i : goal.invariant-loop-i
invariant-loop-i l =
    (l.i ≤ l.n)
    × (l.n ≡ min (length (letters_by l.form l.letters)) l.made)
    × (common_prefix (letters_by l.form l.letters) (carried_by l.plan (letters_by l.form l.letters) l.new) ≡ l.i + common_prefix (drop l.i (letters_by l.form l.letters)) (drop l.i (carried_by l.plan (letters_by l.form l.letters) l.new)))
    × (l.plan.from ≤ l.i)

abbrev pub decreases-loop-i : goal.decreases-loop-i
decreases-loop-i l = l.n - l.i
