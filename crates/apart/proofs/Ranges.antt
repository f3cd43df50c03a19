-- Laws of what an edit touches, by its range.
-- Assumes nothing.
use mathlib.Core.Path.{◌≡◌, ap}
use mathlib.Core.Bool.{Bool, true, false, ◌||◌}
use mathlib.Core.List.{List}
use Prim.Native.Nat.{ℕ, ◌+◌, min}
use lib.Dec.{ltb}
use lib.ListN.{length}
use Rattle.rules.specs.declared.Kind.TheVariants.{Insertion}
use Rattle.rules.specs.declared.Cds.{Cds}
use Rattle.rules.specs.declared.Edit.{Edit}
use Rattle.rules.specs.Reference.{Reference, size}
use Rattle.rules.specs.Position.{index}
use Rattle.rules.specs.Edit.{Asked, is, start_index, end_index}
use Rattle.rules.specs.Pair.{touched_from, touched_to, is_ahead, are_apart}
use Rattle.rules.specs.Views.{bare, asked}

module _ (c : Cds) (len : ℕ) (edit : Edit) (inserts : Bool) (told : inserts ≡ is Insertion edit.kind) (s new : List ℕ) (long : length s ≡ len) where
  pub gap_from : inserts ≡ true → (start : ℕ) → start ≡ index c.cs c.ce len edit.start → start + 1 ≡ touched_from (bare s c) (asked edit new)
  unfolding touched_from start_index size
  gap_from h start at = rw (← told, h, long) (ap (λ (n : ℕ). n + 1) at)

  pub gap-to : inserts ≡ true → (start : ℕ) → start ≡ index c.cs c.ce len edit.start → start + 1 ≡ touched_to (bare s c) (asked edit new)
  unfolding touched_to start_index size
  gap-to h start at = rw (← told, h, long) (ap (λ (n : ℕ). n + 1) at)

  pub range-from : inserts ≡ false → (start : ℕ) → start ≡ index c.cs c.ce len edit.start → start ≡ touched_from (bare s c) (asked edit new)
  unfolding touched_from start_index size
  range-from h start at = rw (← told, h, long) at

  pub range-to : inserts ≡ false → (end : ℕ) → end ≡ min (index c.cs c.ce len edit.end + 1) len → end ≡ touched_to (bare s c) (asked edit new)
  unfolding touched_to end_index size
  range-to h end at = rw (← told, h, long) at

pub apart_is : (r : Reference) (a b : Asked) (from to first last : ℕ) → from ≡ touched_from r a → to ≡ touched_to r a → first ≡ touched_from r b → last ≡ touched_to r b
    → (ltb to first || ltb last from) ≡ are_apart r a b
unfolding are_apart is_ahead
apart_is r a b from to first last h k l m = rw (h, k, l, m)
