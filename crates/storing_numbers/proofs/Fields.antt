-- Laws of a field: what it takes, and what its function writes.
-- Assumes nothing.
use Rattle.std.specs.Prelude.{if◌then◌else◌}
use mathlib.Core.Path.{◌≡◌, refl, sym, ap, ◌∙◌}
use mathlib.Core.Bool.{Bool, true, false, not}
use mathlib.Core.List.{List, [], ◌∷◌, ◌++◌, append-nil}
use Prim.Native.Nat.{ℕ, ◌+◌, ◌≤◌, ◌<◌}
use native.Mathlib.Omega.{arith}
use lib.Dec.{eqb}
use lib.ListN.{length, drop_of_length-le}
use borrow.Author.Tests.{ne_eqb}
use Rattle.rules.specs.declared.Cds.{Cds}
use Rattle.rules.specs.Bytes.{over}
use Rattle.rules.specs.Stored.{Tagged}
use Rattle.rules.specs.Storing.{in_two, in_four, field_bytes, tagged}
use Rattle.storing_numbers.specs.Fields.{one_field, narrow_bounds, wide_bounds}

-- an empty field takes no byte; another its head and its content
pub field_none : (tag : ℕ) (c : List ℕ) → length c ≡ 0 → one_field (tagged tag c) ≡ []
unfolding one_field
field_none tag [] h = refl
field_none tag (x ∷ c) h = absurd (omega arith)

pub field_some : (tag : ℕ) (c : List ℕ) → 1 ≤ length c → one_field (tagged tag c) ≡ field_bytes (tagged tag c)
unfolding one_field
field_some tag [] h = absurd (omega arith)
field_some tag (x ∷ c) h = refl

pub length-field : (f : Tagged) → length (field_bytes f) ≡ 3 + length f.content
unfolding field_bytes in_two
length-field f = omega arith

pub field-length : (tag : ℕ) (c : List ℕ) → length (one_field (tagged tag c)) ≡ (if eqb (length c) 0 then 0 else (3 + length c))
field-length tag [] = ap length (field_none tag [] refl)
field-length tag (x ∷ c) = ap length (field_some tag (x ∷ c) (omega arith)) ∙ length-field (tagged tag (x ∷ c)) ∙ rw (ne_eqb (length (x ∷ c)) 0 (λ h. omega arith))

-- what leaves a buffer as it is
pub nothing : (tag : ℕ) (c d : List ℕ) → length c ≡ 0 → (0 ≡ length (one_field (tagged tag c))) × (d ≡ over (one_field (tagged tag c)) d)
unfolding over
nothing tag c d h = rw (field_none tag c h) (refl, refl)

-- a buffer that is all written
pub over-all : (p d : List ℕ) → length p ≡ length d → over p d ≡ p
unfolding over
over-all p d h = rw (drop_of_length-le d {i = length p} (omega arith)) (append-nil p)

-- a field whose content is written
pub a_field : (tag : ℕ) (c k d out : List ℕ) (n : ℕ) → k ≡ c → 1 ≤ length c → n ≡ length (field_bytes (tagged tag k)) → out ≡ over (field_bytes (tagged tag k)) d
    → (n ≡ length (one_field (tagged tag c))) × (out ≡ over (one_field (tagged tag c)) d)
a_field tag c k d out n is some e q = rw (field_some tag c some, ← is) (e, q)

pub room_for : (tag : ℕ) (c k : List ℕ) (n : ℕ) → k ≡ c → 1 ≤ length c → length c < 65536 → length (one_field (tagged tag c)) ≤ n → (length k < 65536) × (3 + length k ≤ n)
room_for tag c k n is some short h = rw is (short, omega (arith, sym (length-field (tagged tag c)), ap length (field_some tag c some)))

-- a choice that gives nothing
pub chosen_none : {A : Type 0} (b : Bool) (x : List A) → b ≡ true → length (if b then [] else x) ≡ 0
chosen_none true x e = refl
chosen_none false x e = let z : ◌≡◌ {A = ℕ} 0 1 = cc in absurd (omega arith)

pub chosen_other : {A : Type 0} (b : Bool) (x : List A) → b ≡ false → length (if b then x else []) ≡ 0
chosen_other false x e = refl
chosen_other true x e = let z : ◌≡◌ {A = ℕ} 0 1 = cc in absurd (omega arith)

pub not_true : (b : Bool) → not b ≡ true → b ≡ false
not_true true h = let z : ◌≡◌ {A = ℕ} 0 1 = cc in absurd (omega arith)
not_true false h = refl

-- bounds in an array of their own
module _ (long : Bool) (c : Cds) (k zeros : List ℕ) where
  module _ (is-long : long ≡ false) (few : length zeros ≡ 4) (is : k ≡ over (in_two c.cs ++ in_two c.ce) zeros) where
    narrow-is : k ≡ (if long then [] else (in_two c.cs ++ in_two c.ce))
    unfolding in_two
    narrow-is = is ∙ over-all (in_two c.cs ++ in_two c.ce) zeros (sym few) ∙ sym (rw is-long refl)

    four : length (if long then [] else (in_two c.cs ++ in_two c.ce)) ≡ 4
    unfolding in_two
    four = rw is-long refl

    pub narrow-room : (n : ℕ) → length (one_field (narrow_bounds long c)) ≤ n → (length k < 65536) × (3 + length k ≤ n)
    narrow-room n h = room_for 2 (if long then [] else (in_two c.cs ++ in_two c.ce)) k n narrow-is (omega (arith, four)) (omega (arith, four)) h

    pub narrow-done : (d out : List ℕ) (n : ℕ) → n ≡ length (field_bytes (tagged 2 k)) → out ≡ over (field_bytes (tagged 2 k)) d
        → (n ≡ length (one_field (narrow_bounds long c))) × (out ≡ over (one_field (narrow_bounds long c)) d)
    narrow-done d out n e q = a_field 2 (if long then [] else (in_two c.cs ++ in_two c.ce)) k d out n narrow-is (omega (arith, four)) e q

  module _ (is-long : long ≡ true) (few : length zeros ≡ 8) (is : k ≡ over (in_four c.cs ++ in_four c.ce) zeros) where
    wide_is : k ≡ (if long then (in_four c.cs ++ in_four c.ce) else [])
    unfolding in_two in_four
    wide_is = is ∙ over-all (in_four c.cs ++ in_four c.ce) zeros (sym few) ∙ sym (rw is-long refl)

    eight : length (if long then (in_four c.cs ++ in_four c.ce) else []) ≡ 8
    unfolding in_two in_four
    eight = rw is-long refl

    pub wide_room : (n : ℕ) → length (one_field (wide_bounds long c)) ≤ n → (length k < 65536) × (3 + length k ≤ n)
    wide_room n h = room_for 7 (if long then (in_four c.cs ++ in_four c.ce) else []) k n wide_is (omega (arith, eight)) (omega (arith, eight)) h

    pub wide-done : (d out : List ℕ) (n : ℕ) → n ≡ length (field_bytes (tagged 7 k)) → out ≡ over (field_bytes (tagged 7 k)) d
        → (n ≡ length (one_field (wide_bounds long c))) × (out ≡ over (one_field (wide_bounds long c)) d)
    wide-done d out n e q = a_field 7 (if long then (in_four c.cs ++ in_four c.ce) else []) k d out n wide_is (omega (arith, eight)) e q
