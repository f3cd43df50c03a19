use mathlib.Core.Path.{◌≡◌}
use Prim.Native.Nat.{◌+◌, ◌-◌, ◌≤◌, min}
use lib.ListN.{length}
use Rattle.rules.specs.Packed.{letters_by}
use Rattle.rules.specs.Exceptions.{suffix_behind}
use Rattle.transcript.specs.Carrying.{carried_by}
use Rattle.altered.proofs.Shares.{left_back}
use Rattle.altered.proofs.shared_back.Given as goal

abbrev pub invariant-loop-i : goal.invariant-loop-i
invariant-loop-i l =
    (l.i ≤ l.n)
    × (l.size ≡ length (letters_by l.form l.letters))
    × (l.n + l.prefix ≡ min l.size l.made)
    × (suffix_behind l.prefix (letters_by l.form l.letters) (carried_by l.plan (letters_by l.form l.letters) l.new) ≡ l.i + left_back l.prefix (letters_by l.form l.letters) (carried_by l.plan (letters_by l.form l.letters) l.new) l.i)
    × (l.first ≤ l.i)
    × (l.first ≡ min (l.size - l.plan.to) l.n)

abbrev pub decreases-loop-i : goal.decreases-loop-i
decreases-loop-i l = l.n - l.i
