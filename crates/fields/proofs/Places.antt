-- Laws of places: what a field at a place holds, what stands behind it, and where a content is looked for.
-- Assumes nothing.
use Rattle.std.specs.Prelude.{None, Some, if◌then◌else◌}
use denote.Enum.Declared.{tag_of}
use types.Run.{OneOf, miss}
use Rattle.fields.specs.contracts.reader.Field.{the_type}
use mathlib.Core.Path.{◌≡◌, refl, sym, ap, ◌∙◌}
use mathlib.Core.Bool.{Bool, true, false}
use mathlib.Core.List.{List, [], ◌∷◌}
use Prim.Native.Nat.{ℕ, zero, suc, ◌+◌, ◌≤◌, ◌<◌}
use native.Mathlib.Omega.{arith}
use lib.Dec.{leb}
use lib.ListN.{length, take, drop, length-drop}
use lib.Seq.{length-take-le, drop-drop}
use borrow.Author.Tests.{leb-true, eq-eqb, ne_eqb}
use Rattle.rules.specs.declared.Part.{Part}
use Rattle.rules.specs.Record.{part_of}
use Rattle.rules.specs.Stored as stored
use Rattle.rules.specs.Stored.{two_bytes, field, Tagged}
use Rattle.fields.specs.declared.reader.Field.{Field}
use Rattle.fields.specs.declared.reader.Field.TheVariants.{Whole, Cut, End}
use Rattle.fields.specs.Places.{placed, field_at, Within, whole_then, whole_from, whole_fields, place_of, content_at}

-- a field that is cut off, or none
pub not_whole : (f : Field) → OneOf (1 ∷ 2 ∷ []) (tag_of the_type f) → (t : ℕ) (p : Part) → f ≡ Whole t p → ⊥
not_whole (Whole x q) h t p e = miss (1 ∷ 2 ∷ []) 0 tt h
not_whole (Cut x) h t p e = let z : ◌≡◌ {A = ℕ} 0 1 = cc in omega arith
not_whole End h t p e = let z : ◌≡◌ {A = ℕ} 0 1 = cc in omega arith

pub length_of_part : (s : List ℕ) (p : Part) → p.at + p.len ≤ length s → length (part_of p s) ≡ p.len
unfolding part_of
length_of_part s p h = length-take-le p.len (drop p.at s) (omega (arith, length-drop p.at s))

-- bytes that begin with a whole field
record Begins (s c r : List ℕ) : Type 0 where
  content : take (length c) (drop 3 s) ≡ c
  rest : drop (length c) (drop 3 s) ≡ r
  long : 3 + length c ≤ length s

begins : (s : List ℕ) (t : ℕ) (c r : List ℕ) → field s ≡ stored.whole t c r → Begins s c r
unfolding field
begins [] t c r e = let z : ◌≡◌ {A = ℕ} 0 1 = cc in absurd (omega arith)
begins (x ∷ []) t c r e = let z : ◌≡◌ {A = ℕ} 0 1 = cc in absurd (omega arith)
begins (x ∷ y ∷ []) t c r e = let z : ◌≡◌ {A = ℕ} 0 1 = cc in absurd (omega arith)
begins (x ∷ y ∷ z ∷ s) t c r e = by (leb (two_bytes y z) (length s)) refl e
  where
    by : (b : Bool) → leb (two_bytes y z) (length s) ≡ b
        → (if b then stored.whole x (take (two_bytes y z) s) (drop (two_bytes y z) s) else stored.cut x) ≡ stored.whole t c r → Begins (x ∷ y ∷ z ∷ s) c r
    by false h e = let z : ◌≡◌ {A = ℕ} 0 1 = cc in absurd (omega arith)
    by true h e =
        let is_c : take (two_bytes y z) s ≡ c = cc in
        let is-r : drop (two_bytes y z) s ≡ r = cc in
        let fits : two_bytes y z ≤ length s = leb-true (two_bytes y z) (length s) h in
        let n : length c ≡ two_bytes y z = ap length (sym is_c) ∙ length-take-le (two_bytes y z) s fits in
        record { content = rw n is_c; rest = rw n is-r; long = omega arith }

pub shorter : (s : List ℕ) (t : ℕ) (c r : List ℕ) → field s ≡ stored.whole t c r → length r < length s
shorter s t c r e =
    let b = begins s t c r e in
    omega (arith, b.long, ap length (sym b.rest), length-drop (length c) (drop 3 s), length-drop 3 s)

-- a field at a place, as the bytes have it
abbrev pub as_read : List ℕ → Field → stored.Field
as_read s End = stored.ended
as_read s (Cut t) = stored.cut t
as_read s (Whole t p) = stored.whole t (part_of p s) (drop (p.at + p.len) s)

-- a whole one
pub record Holds (s : List ℕ) (at : ℕ) (p : Part) : Type 0 where
  pub begins : p.at ≡ at + 3
  pub fits : p.at + p.len ≤ length s

record Placed (s : List ℕ) (at : ℕ) (f : Field) : Type 0 where
  is : field (drop at s) ≡ as_read s f
  holds : (t : ℕ) (p : Part) → f ≡ Whole t p → Holds s at p

module _ (s : List ℕ) (at : ℕ) (f : Field) (is : f ≡ field_at s at) where
  is-placed : Placed s at f
  unfolding placed part_of
  is-placed = rw is (by (field (drop at s)) refl)
    where
      by : (g : stored.Field) → field (drop at s) ≡ g → Placed s at (placed at g)
      by stored.ended q = record { is = q; holds = λ t p h. let z : ◌≡◌ {A = ℕ} 0 1 = cc in absurd (omega arith) }
      by (stored.cut x) q = record { is = q; holds = λ t p h. let z : ◌≡◌ {A = ℕ} 0 1 = cc in absurd (omega arith) }
      by (stored.whole x c r) q =
          let b = begins (drop at s) x c r q in
          let left = length-drop at s in
          record {
            is = q ∙ sym (rw (← drop-drop (length c) (at + 3) s, ← drop-drop 3 at s, b.content, b.rest));
            holds = λ t p h. let same : record { at = at + 3; len = length c } ≡ p = cc in rw (← same) (record { begins = refl; fits = omega (arith, b.long) });
          }

  pub read_at : field (drop at s) ≡ as_read s f
  read_at = is-placed.is

  pub holds : (t : ℕ) (p : Part) → f ≡ Whole t p → Holds s at p
  holds = is-placed.holds

  pub within : Within s f
  within t p h = (holds t p h).fits

  -- where its content stands, by its length
  pub by_length : (t : ℕ) (p : Part) → f ≡ Whole t p → p ≡ record { at = at + 3; len = length (part_of p s) }
  by_length t p h = let x = holds t p h in rw (length_of_part s p x.fits, ← x.begins)

-- the first of the whole fields, and those behind it
then_same : (f : stored.Field) (g h : List ℕ → List Tagged) → ((t : ℕ) (c r : List ℕ) → f ≡ stored.whole t c r → g r ≡ h r) → whole_then f g ≡ whole_then f h
unfolding whole_then
then_same stored.ended g h k = refl
then_same (stored.cut t) g h k = refl
then_same (stored.whole t c r) g h k = rw (k t c r refl)

none_whole : (n : ℕ) → whole_from n [] ≡ []
unfolding whole_from whole_then field
none_whole zero = refl
none_whole (suc n) = refl

enough : (n m : ℕ) (s : List ℕ) → length s ≤ n → length s ≤ m → whole_from n s ≡ whole_from m s
unfolding whole_from
enough zero m [] h k = sym (none_whole m)
enough zero m (x ∷ s) h k = absurd (omega arith)
enough (suc n) zero [] h k = none_whole (suc n)
enough (suc n) zero (x ∷ s) h k = absurd (omega arith)
enough (suc n) (suc m) s h k =
    then_same (field s) (λ r. whole_from n r) (λ r. whole_from m r)
    (λ t c r e. enough n m r (omega (arith, shorter s t c r e)) (omega (arith, shorter s t c r e)))

first-whole : (s : List ℕ) → whole_fields s ≡ whole_then (field s) (λ r. whole_fields r)
unfolding whole_from whole_then field
first-whole [] = refl
first-whole (x ∷ s) =
    then_same (field (x ∷ s)) (λ r. whole_from (length s) r) (λ r. whole_fields r)
    (λ t c r e. enough (length s) (length r) r (omega (arith, shorter (x ∷ s) t c r e)) (omega arith))

-- the content of a tag is looked for from a place on: it stands where it stands among the fields there
abbrev pub Looking : ℕ → List ℕ → ℕ → Type 0
Looking tag s at = place_of tag at (whole_fields (drop at s)) ≡ content_at tag s

module _ (tag : ℕ) (s : List ℕ) (at : ℕ) (l : Looking tag s at) (f : Field) (is : f ≡ field_at s at) where
  pub missing : ((t : ℕ) (p : Part) → f ≡ Whole t p → ⊥) → None ≡ content_at tag s
  unfolding place_of whole_then
  missing other =
      let none : whole_fields (drop at s) ≡ [] = first-whole (drop at s) ∙ rw (read_at s at f is) (by f other) in
      sym (ap (place_of tag at) none) ∙ l
    where
      by : (f : Field) → ((t : ℕ) (p : Part) → f ≡ Whole t p → ⊥) → whole_then (as_read s f) (λ r. whole_fields r) ≡ []
      by End other = refl
      by (Cut t) other = refl
      by (Whole t p) other = absurd (other t p refl)

  module _ (t : ℕ) (p : Part) (h : f ≡ Whole t p) where
    here : whole_fields (drop at s) ≡ record { tag = t; content = part_of p s } ∷ whole_fields (drop (p.at + p.len) s)
    unfolding whole_then
    here = first-whole (drop at s) ∙ rw (read_at s at f is, h)

    pub found : t ≡ tag → Some p ≡ content_at tag s
    unfolding place_of
    found e = ap Some (by_length s at f is t p h) ∙ sym (ap (place_of tag at) here ∙ rw (eq-eqb t tag e)) ∙ l

    pub further : (t ≡ tag → ⊥) → Looking tag s (p.at + p.len)
    unfolding place_of
    further e =
        let x = holds s at f is t p h in
        let place : p.at + p.len ≡ at + 3 + length (part_of p s) = omega (arith, length_of_part s p x.fits, x.begins) in
        ap (λ (n : ℕ). place_of tag n (whole_fields (drop (p.at + p.len) s))) place ∙ sym (ap (place_of tag at) here ∙ rw (ne_eqb t tag e)) ∙ l
