-- An edit of a host's numbers, which the crate above cites.
-- Assumes nothing.
use mathlib.Core.Path.{◌≡◌, ◌∙◌}
use Prim.Native.Nat.{ℕ}
use lib.IntN.{ℤ}
use mir.Syntax.{w64}
use mir.Val.{SFits, to_z, of_z}
use mir.ValLaws.{to_z-of_z}
use Rattle.rules.specs.declared.Edit.{Edit}
use Rattle.host_given.specs.Given.{edit_at}

-- an edit, its signed numbers read back from their bits
pub given_edit : (kind start_star : ℕ) (start : ℤ) (end_star : ℕ) (end : ℤ) → SFits w64 start → SFits w64 end → (e : Edit)
    → e ≡ edit_at kind start_star (to_z w64 (of_z w64 start)) end_star (to_z w64 (of_z w64 end)) → e ≡ edit_at kind start_star start end_star end
given_edit kind start_star start end_star end f g e h = h ∙ rw (to_z-of_z w64 start f, to_z-of_z w64 end g)
