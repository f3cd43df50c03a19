-- Laws of a written field's head.
-- Assumes nothing.
use mathlib.Core.Path.{◌≡◌, refl}
use mathlib.Core.List.{List, [], ◌∷◌}
use Prim.Native.Nat.{ℕ, ◌-◌, ◌≤◌}
use native.Mathlib.Omega.{arith}
use lib.ListN.{length, take, drop, set, length-set, length-drop}
use borrow.Rule.Slice.PartMut.{put_mid}
use Rattle.rules.specs.Bytes.{over}
use Rattle.rules.specs.Storing.{in_two}
use Rattle.rules.proofs.Over.{stored_first, lent_on_by, tail-is}

module _ (tag len : ℕ) (d : List ℕ) (h : 3 ≤ length d) where
  pub fits : length (tag ∷ in_two len) ≤ length d
  unfolding in_two
  fits = h

  pub room : 2 ≤ length (take (length (set d 0 tag) - 1) (drop 1 (set d 0 tag)))
  room = rw (tail-is 1 (set d 0 tag), length-drop 1 (set d 0 tag), length-set d 0 tag) (omega arith)

  -- the tag is stored, and the rest of the buffer is lent on for the length
  pub stored : (l : List ℕ) → l ≡ over (in_two len) (take (length (set d 0 tag) - 1) (drop 1 (set d 0 tag)))
      → put_mid 1 (length (set d 0 tag) - 1) (set d 0 tag) l ≡ over (tag ∷ in_two len) d
  stored l e = lent_on_by (tag ∷ []) (in_two len) d (set d 0 tag) l 1 refl (omega arith) (stored_first tag d (omega arith)) e
