-- Laws of contents: what stands at the place of a tag's content is that content; and in fields that a form doesn't refuse it fits the tag.
-- Assumes nothing.
use Rattle.std.specs.Prelude.{None, Some, if◌then◌else◌}
use Rattle.std.specs.Prelude.{Option as Optional}
use mathlib.Core.Path.{◌≡◌, refl, sym, ap, ◌∙◌}
use mathlib.Core.Bool.{Bool, true, false}
use mathlib.Core.List.{List, [], ◌∷◌}
use mathlib.Core.Option.{Option, none, some}
use Prim.Native.Nat.{ℕ, zero, suc, ◌+◌, ◌≤◌}
use native.Mathlib.Omega.{arith}
use lib.Dec.{eqb}
use lib.ListN.{length, drop}
use borrow.Author.Tests.{eqb-true, not-false}
use Rattle.rules.specs.declared.Part.{Part}
use Rattle.rules.specs.Bytes.{Result, given, refused}
use Rattle.rules.specs.Record.{part_of}
use Rattle.rules.specs.Stored as stored
use Rattle.rules.specs.Stored.{field, Form, is_wrong_tag, is_wrong_content, Tagged, with_field, met, fields_from, fields, content_of}
use Rattle.fields.specs.declared.reader.Field.{Field}
use Rattle.fields.specs.declared.reader.Field.TheVariants.{Whole, Cut, End}
use Rattle.fields.specs.Places.{field_at, whole_then, whole_from, whole_fields, place_of, content_at}
use Rattle.fields.specs.Refusals.{refusal_in, tagged_in}
use Rattle.fields.proofs.Places.{as_read, read_at, length_of_part, holds, by_length}
use Rattle.fields.proofs.Order.{given-fields}

-- the content that stands at a place
abbrev pub content_in : List ℕ → Optional Part → Option (List ℕ)
content_in s (Some p) = some (part_of p s)
content_in s None = none

-- a content stands at a place within the bytes, if there is one
record Stands (s : List ℕ) (c : Optional Part) (o : Option (List ℕ)) : Type 0 where
  same : content_in s c ≡ o
  within : (p : Part) → c ≡ Some p → p.at + p.len ≤ length s

module _ (t : ℕ) (s : List ℕ) where
  -- looked for from a place on, among n fields at most
  abbrev From : ℕ → ℕ → Type 0
  From n at = Stands s (place_of t at (whole_from n (drop at s))) (content_of t (whole_from n (drop at s)))

  stands_from : (n at : ℕ) → From n at
  unfolding place_of content_of whole_from whole_then
  stands_from zero at = record { same = refl; within = λ p e. let z : ◌≡◌ {A = ℕ} 0 1 = cc in absurd (omega arith) }
  stands_from (suc n) at = rw (read_at s at (field_at s at) refl) (by (λ next. stands_from n next) (field_at s at) refl)
    where
      none-there : Stands s None none
      none-there = record { same = refl; within = λ p e. let z : ◌≡◌ {A = ℕ} 0 1 = cc in absurd (omega arith) }

      by : ((next : ℕ) → From n next) → (f : Field) → f ≡ field_at s at
          → Stands s (place_of t at (whole_then (as_read s f) (λ r. whole_from n r))) (content_of t (whole_then (as_read s f) (λ r. whole_from n r)))
      by more End e = none-there
      by more (Cut x) e = none-there
      by more (Whole x p) e = tests (eqb x t)
        where
          tests : (b : Bool)
              → Stands s (if b then Some (record { at = at + 3; len = length (part_of p s) }) else place_of t (at + 3 + length (part_of p s)) (whole_from n (drop (p.at + p.len) s)))
              (if b then some (part_of p s) else content_of t (whole_from n (drop (p.at + p.len) s)))
          tests true = rw (← by_length s at (Whole x p) e x p refl) (record { same = refl; within = λ q i. let is : p ≡ q = cc in rw (← is) (holds s at (Whole x p) e x p refl).fits })
          tests false =
              let w = holds s at (Whole x p) e x p refl in
              let on : at + 3 + length (part_of p s) ≡ p.at + p.len = omega (arith, length_of_part s p w.fits, w.begins) in
              rw on (more (p.at + p.len))

-- fields that a form doesn't refuse are the whole ones that the bytes begin with, and their contents fit
record Are (form : Form) (fs gs : List Tagged) : Type 0 where
  same : fs ≡ gs
  fit : (t : ℕ) (c : List ℕ) → content_of t gs ≡ some c → form.fits t c ≡ true

module _ (form : Form) where
  no_fields : (gs : List Tagged) → ◌≡◌ {A = Result (List Tagged)} (given []) (given gs) → Are form [] gs
  unfolding content_of
  no_fields gs h =
      let is : [] ≡ gs = cc in
      rw (← is) (record { same = refl; fit = λ t c e. let z : ◌≡◌ {A = ℕ} 0 1 = cc in absurd (omega arith) })

  one_more : (x : ℕ) (c : List ℕ) (fs gs hs : List Tagged) → form.fits x c ≡ true → Are form fs gs → given (record { tag = x; content = c } ∷ gs) ≡ given hs
      → Are form (record { tag = x; content = c } ∷ fs) hs
  unfolding content_of
  one_more x c fs gs hs fits k h =
      let is : record { tag = x; content = c } ∷ gs ≡ hs = cc in
      rw (← is) (record { same = ap (λ (l : List Tagged). record { tag = x; content = c } ∷ l) k.same; fit = λ t d e. tests t d (eqb x t) refl e })
    where
      tests : (t : ℕ) (d : List ℕ) (b : Bool) → eqb x t ≡ b → (if b then some c else content_of t gs) ≡ some d → form.fits t d ≡ true
      tests t d true i e = let same : c ≡ d = cc in rw (← same, ← eqb-true x t i) fits
      tests t d false i e = k.fit t d e

  abbrev AreWhole : ℕ → Type 0
  AreWhole n = (last : ℕ) (s : List ℕ) (gs : List Tagged) → fields_from form n last s ≡ given gs → Are form (whole_from n s) gs

  are-whole : (n : ℕ) → AreWhole n
  unfolding fields_from whole_from met whole_then with_field is_wrong_content
  are-whole zero last s gs h = no_fields gs h
  are-whole (suc n) last s gs h = by (are-whole n) (field s) h
    where
      behind : AreWhole n → (t : ℕ) (c r : List ℕ) → form.fits t c ≡ true → (x : Result (List Tagged)) → x ≡ fields_from form n t r
          → with_field t c x ≡ given gs → Are form (record { tag = t; content = c } ∷ whole_from n r) gs
      behind more t c r fits (given hs) q h = one_more t c (whole_from n r) hs gs fits (more t r hs (sym q)) h
      behind more t c r fits (refused m) q h = let z : ◌≡◌ {A = ℕ} 0 1 = cc in absurd (omega arith)

      tests : AreWhole n → (t : ℕ) (c r : List ℕ) (a b : Bool) → is_wrong_content form t c ≡ b → (if a then refused 21 else if b then refused 23 else with_field t c (fields_from form n t r)) ≡ given gs
          → Are form (record { tag = t; content = c } ∷ whole_from n r) gs
      tests more t c r true b f h = let z : ◌≡◌ {A = ℕ} 0 1 = cc in absurd (omega arith)
      tests more t c r false true f h = let z : ◌≡◌ {A = ℕ} 0 1 = cc in absurd (omega arith)
      tests more t c r false false f h = behind more t c r (not-false (form.fits t c) f) (fields_from form n t r) refl h

      by : AreWhole n → (g : stored.Field) → met form last g (λ t r. fields_from form n t r) ≡ given gs → Are form (whole_then g (λ r. whole_from n r)) gs
      by more stored.ended h = no_fields gs h
      by more (stored.cut t) h = let z : ◌≡◌ {A = ℕ} 0 1 = cc in absurd (omega arith)
      by more (stored.whole t c r) h = tests more t c r (is_wrong_tag form last t) (is_wrong_content form t c) refl h

-- a place within the bytes, whose content fits the tag
pub record Found (form : Form) (t : ℕ) (s : List ℕ) (p : Part) : Type 0 where
  pub within : p.at + p.len ≤ length s
  pub fits : form.fits t (part_of p s) ≡ true

-- in fields that a form doesn't refuse
module _ (form : Form) (s : List ℕ) (none-refused : refusal_in (fields form s) ≡ 0) where
  are : Are form (whole_fields s) (tagged_in (fields form s))
  unfolding fields
  are = are-whole form (length s) 0 s (tagged_in (fields form s)) (given-fields form s none-refused)

  module _ (t : ℕ) (c : Optional Part) (is : c ≡ content_at t s) where
    pub has : content_of t (tagged_in (fields form s)) ≡ content_in s c
    has = rw is (sym (ap (content_of t) are.same) ∙ sym (stands_from t s (length s) 0).same)

    pub found : (p : Part) → c ≡ Some p → Found form t s p
    found p h =
        record {
          within = (stands_from t s (length s) 0).within p (sym is ∙ h);
          fits = are.fit t (part_of p s) (has ∙ rw h);
        }
