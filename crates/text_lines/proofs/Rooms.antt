-- Laws of what is kept between two steps.
-- Assumes nothing.
use mathlib.Core.Path.{◌≡◌, ◌∙◌}
use mathlib.Core.List.{List}
use Prim.Native.Nat.{ℕ}
use native.Mathlib.Omega.{arith}
use lib.ListN.{length}
use Rattle.text_lines.specs.declared.State.{State}
use Rattle.text_lines.specs.Memory.{fresh, Rooms, Keeps}

pub fresh_keeps : (s : State) (letters protein : List ℕ) → s ≡ fresh → Keeps s letters protein
fresh_keeps s letters protein is = rw is (record { short = omega arith; known = tt })

-- buffers keep their lengths
pub rooms_kept : (line letters protein line' letters' protein' : List ℕ) → Rooms line letters protein → length line' ≡ length line → length letters' ≡ length letters → length protein' ≡ length protein
    → Rooms line' letters' protein'
rooms_kept line letters protein line' letters' protein' h a b c = record { for-line = a ∙ h.for-line; for-letters = b ∙ h.for-letters; for-protein = c ∙ h.for-protein }
