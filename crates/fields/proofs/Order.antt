-- Laws of fields in their order, over any form: what the fields from a place on are, by what the field there is refused with.
-- Assumes nothing.
use Rattle.std.specs.Prelude.{if◌then◌else◌}
use mathlib.Core.Path.{◌≡◌, refl, sym, ap, ◌∙◌}
use mathlib.Core.Bool.{Bool, true, false}
use mathlib.Core.List.{List, [], ◌∷◌}
use Prim.Native.Nat.{ℕ, zero, suc, ◌+◌, ◌≤◌}
use native.Mathlib.Omega.{arith}
use lib.ListN.{length, drop}
use Rattle.rules.specs.declared.Part.{Part}
use Rattle.rules.specs.Bytes.{Result, given, refused}
use Rattle.rules.specs.Record.{part_of}
use Rattle.rules.specs.Stored as stored
use Rattle.rules.specs.Stored.{field, Form, is_wrong_tag, is_wrong_content, Tagged, with_field, met, fields_from, fields}
use Rattle.fields.specs.declared.reader.Field.{Field}
use Rattle.fields.specs.declared.reader.Field.TheVariants.{Whole, Cut, End}
use Rattle.fields.specs.Places.{field_at}
use Rattle.fields.specs.Refusals.{field_refusal, refusal_in, tagged_in}
use Rattle.fields.proofs.Places.{shorter, as_read, read_at}

-- the fields from some bytes on, behind a field with the tag `last`
abbrev pub fields_after : Form → ℕ → List ℕ → Result (List Tagged)
fields_after form last s = fields_from form (length s) last s

pub refusal_with : (t : ℕ) (c : List ℕ) (x : Result (List Tagged)) → refusal_in (with_field t c x) ≡ refusal_in x
unfolding with_field refusal_in
refusal_with t c (given fs) = refl
refusal_with t c (refused n) = refl

module _ (form : Form) where
  met-same : (last : ℕ) (f : stored.Field) (g h : ℕ → List ℕ → Result (List Tagged)) → ((t : ℕ) (c r : List ℕ) → f ≡ stored.whole t c r → g t r ≡ h t r)
      → met form last f g ≡ met form last f h
  unfolding met
  met-same last stored.ended g h k = refl
  met-same last (stored.cut t) g h k = refl
  met-same last (stored.whole t c r) g h k = rw (k t c r refl)

  none_left : (n last : ℕ) → fields_from form n last [] ≡ given []
  unfolding fields_from met field
  none_left zero last = refl
  none_left (suc n) last = refl

  enough : (n m last : ℕ) (s : List ℕ) → length s ≤ n → length s ≤ m → fields_from form n last s ≡ fields_from form m last s
  unfolding fields_from
  enough zero m last [] h k = sym (none_left m last)
  enough zero m last (x ∷ s) h k = absurd (omega arith)
  enough (suc n) zero last [] h k = none_left (suc n) last
  enough (suc n) zero last (x ∷ s) h k = absurd (omega arith)
  enough (suc n) (suc m) last s h k =
      met-same last (field s) (λ t r. fields_from form n t r) (λ t r. fields_from form m t r)
      (λ t c r e. enough n m t r (omega (arith, shorter s t c r e)) (omega (arith, shorter s t c r e)))

  -- the first of them, and those behind it
  after_first : (last : ℕ) (s : List ℕ) → fields_after form last s ≡ met form last (field s) (λ t r. fields_after form t r)
  unfolding fields_from met field
  after_first last [] = refl
  after_first last (x ∷ s) =
      met-same last (field (x ∷ s)) (λ t r. fields_from form (length s) t r) (λ t r. fields_after form t r)
      (λ t c r e. enough (length s) (length r) t r (omega (arith, shorter (x ∷ s) t c r e)) (omega arith))

  pub from_start : (s : List ℕ) → fields form s ≡ fields_after form 0 (drop 0 s)
  unfolding fields
  from_start s = refl

  -- a field of the bytes, by its place and by what it is refused with
  module _ (s : List ℕ) (at last : ℕ) (f : Field) (is : f ≡ field_at s at) where
    first-here : fields_after form last (drop at s) ≡ met form last (as_read s f) (λ t r. fields_after form t r)
    first-here = rw (after_first last (drop at s), read_at s at f is)

    pub refused-here : (n : ℕ) → n ≡ field_refusal form last s f → (n ≡ 0 → ⊥) → n ≡ refusal_in (fields_after form last (drop at s))
    unfolding field_refusal met refusal_in
    refused-here n e some = by f e ∙ ap refusal_in (sym first-here)
      where
        tests : (a b : Bool) (x : Result (List Tagged)) → n ≡ (if a then 21 else if b then 23 else 0)
            → n ≡ refusal_in (if a then refused 21 else if b then refused 23 else x)
        tests true b x h = h
        tests false true x h = h
        tests false false x h = absurd (some h)

        by : (f : Field) → n ≡ field_refusal form last s f → n ≡ refusal_in (met form last (as_read s f) (λ t r. fields_after form t r))
        by End h = h
        by (Cut t) h = h
        by (Whole t p) h = tests (is_wrong_tag form last t) (is_wrong_content form t (part_of p s)) _ h

    -- no field is left
    pub none_here : field_refusal form last s f ≡ 0 → ((t : ℕ) (p : Part) → f ≡ Whole t p → ⊥) → fields_after form last (drop at s) ≡ given []
    unfolding field_refusal met
    none_here z other = first-here ∙ by f z other
      where
        number : (a : Bool) → ◌≡◌ {A = ℕ} (if a then 21 else 20) 0 → ⊥
        number true h = omega arith
        number false h = omega arith

        by : (f : Field) → field_refusal form last s f ≡ 0 → ((t : ℕ) (p : Part) → f ≡ Whole t p → ⊥) → met form last (as_read s f) (λ t r. fields_after form t r) ≡ given []
        by End h other = refl
        by (Cut t) h other = absurd (number (is_wrong_tag form last t) h)
        by (Whole t p) h other = absurd (other t p refl)

    -- a whole one that isn't refused, and those behind it
    pub goes_on : (t : ℕ) (p : Part) → f ≡ Whole t p → field_refusal form last s f ≡ 0
        → fields_after form last (drop at s) ≡ with_field t (part_of p s) (fields_after form t (drop (p.at + p.len) s))
    unfolding field_refusal met
    goes_on t p h z =
        first-here ∙ rw h (by (is_wrong_tag form last t) (is_wrong_content form t (part_of p s)) _ (sym (ap (field_refusal form last s) h) ∙ z))
      where
        by : (a b : Bool) (x : Result (List Tagged)) → ◌≡◌ {A = ℕ} (if a then 21 else if b then 23 else 0) 0
            → (if a then refused 21 else if b then refused 23 else x) ≡ x
        by true b x h = absurd (omega arith)
        by false true x h = absurd (omega arith)
        by false false x h = refl

  -- a refusal has a number
  some_number : (n last : ℕ) (s : List ℕ) (m : ℕ) → m ≡ 0 → fields_from form n last s ≡ refused m → ⊥
  unfolding fields_from met with_field
  some_number zero last s m z h = let o : ◌≡◌ {A = ℕ} 0 1 = cc in omega arith
  some_number (suc n) last s m z h = by (field s) (λ t r. some_number n t r m z) h
    where
      behind : (t : ℕ) (c : List ℕ) (x : Result (List Tagged)) → with_field t c x ≡ refused m → x ≡ refused m
      behind t c (given fs) h = let o : ◌≡◌ {A = ℕ} 0 1 = cc in absurd (omega arith)
      behind t c (refused k) h = h

      number : (a : Bool) → ◌≡◌ {A = Result (List Tagged)} (refused (if a then 21 else 20)) (refused m) → ⊥
      number true h = let o : 21 ≡ m = cc in omega arith
      number false h = let o : 20 ≡ m = cc in omega arith

      tests : (a b : Bool) (t : ℕ) (c : List ℕ) (x : Result (List Tagged)) → (x ≡ refused m → ⊥) → (if a then refused 21 else if b then refused 23 else with_field t c x) ≡ refused m → ⊥
      tests true b t c x k h = let o : 21 ≡ m = cc in omega arith
      tests false true t c x k h = let o : 23 ≡ m = cc in omega arith
      tests false false t c x k h = k (behind t c x h)

      by : (g : stored.Field) → ((t : ℕ) (r : List ℕ) → fields_from form n t r ≡ refused m → ⊥) → met form last g (λ t r. fields_from form n t r) ≡ refused m → ⊥
      by stored.ended k h = let o : ◌≡◌ {A = ℕ} 0 1 = cc in omega arith
      by (stored.cut t) k h = number (is_wrong_tag form last t) h
      by (stored.whole t c r) k h = tests (is_wrong_tag form last t) (is_wrong_content form t c) t c (fields_from form n t r) (k t r) h

  -- what 20, 21 and 23 leave
  pub given-fields : (s : List ℕ) → refusal_in (fields form s) ≡ 0 → fields form s ≡ given (tagged_in (fields form s))
  unfolding fields refusal_in tagged_in
  given-fields s h = by (fields_from form (length s) 0 s) refl h
    where
      by : (x : Result (List Tagged)) → fields_from form (length s) 0 s ≡ x → refusal_in x ≡ 0 → x ≡ given (tagged_in x)
      by (given fs) q h = refl
      by (refused n) q h = absurd (some_number (length s) 0 s n h q)
