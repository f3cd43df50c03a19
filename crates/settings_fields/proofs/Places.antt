-- Laws of places: what stands at the places of a store's fields is what its contents hold.
-- Assumes nothing.
use Rattle.std.specs.Prelude.{Some, None, if◌then◌else◌}
use mathlib.Core.Path.{◌≡◌, refl, sym, ap, ◌∙◌}
use mathlib.Core.Bool.{Bool, true, false, ◌&&◌, and_assoc}
use mathlib.Core.List.{List, [], ◌∷◌, ◌++◌}
use mathlib.Core.Option.{Option, none, some}
use Prim.Native.Nat.{ℕ, suc, ◌+◌, ◌-◌, ◌≤◌, ◌<◌}
use native.Mathlib.Numerals.{add-one}
use native.Mathlib.Omega.{arith}
use lib.Dec.{eqb, leb}
use lib.ListN.{length, take, drop, get_or, length-drop}
use lib.Seq.{drop-cons, length-take-le}
use borrow.Author.Tests.{eq-eqb, eqb-true, le-leb, lt-leb}
use Rattle.rules.specs.declared.Part.{Part}
use Rattle.rules.specs.Bytes.{is_none}
use Rattle.rules.specs.Record.{part_of}
use Rattle.rules.specs.Stored as stored
use Rattle.rules.specs.Stored.{two_bytes, field}
use Rattle.rules.specs.Settings.{has_longest, version_of, layout, with_content, content_by, contents_in, settings_in, are_settings, Refused, Held, held_in}
use Rattle.rules.proofs.Tests.{and_left, and_right}
use Rattle.fields.specs.declared.reader.Field.{Field}
use Rattle.fields.specs.declared.reader.Field.TheVariants.{Whole, Cut, End}
use Rattle.fields.specs.Places.{field_at}
use Rattle.fields.proofs.Places.{as_read, read_at, holds, length_of_part}
use Rattle.settings_fields.specs.Places.{is_of, is_at, are_at, contents_at, answered, version_in, settings_at}

-- a field at a place, as it is met there
module _ (s : List ℕ) (at : ℕ) (f : Field) (is : f ≡ field_at s at) where
  module _ (t : ℕ) (p : Part) (h : f ≡ Whole t p) where
    pub part_length : length (part_of p s) ≡ p.len
    part_length = length_of_part s p (holds s at f is t p h).fits

    pub is_field : (tag len : ℕ) → (eqb t tag && eqb p.len len) ≡ is_at s at (tag, len)
    unfolding is_at is_of
    is_field tag len = rw (read_at s at f is, h, part_length)

  pub no_field : ((t : ℕ) (p : Part) → f ≡ Whole t p → ⊥) → (tag len : ℕ) → false ≡ is_at s at (tag, len)
  unfolding is_at is_of
  no_field other tag len = rw (read_at s at f is) (by f other)
    where
      by : (f : Field) → ((t : ℕ) (p : Part) → f ≡ Whole t p → ⊥) → false ≡ is_of (tag, len) (as_read s f)
      by End other = refl
      by (Cut t) other = refl
      by (Whole t p) other = absurd (other t p refl)

-- a field of that tag and length, and what the bytes hold there
record Stands (s : List ℕ) (at : ℕ) (l : ℕ × ℕ) : Type 0 where
  long : at + 3 + l.1 ≤ length s
  reads : field (drop at s) ≡ stored.whole l.0 (take l.1 (drop (at + 3) s)) (drop (at + 3 + l.1) s)

module _ (s : List ℕ) (at : ℕ) (l : ℕ × ℕ) (h : is_at s at l ≡ true) where
  stands : Stands s at l
  unfolding is_at is_of part_of
  stands = by (field_at s at) refl (rw (read_at s at (field_at s at) refl) at h)
    where
      by : (f : Field) → f ≡ field_at s at → is_of l (as_read s f) ≡ true → Stands s at l
      by End is h = let z : ◌≡◌ {A = ℕ} 0 1 = cc in absurd (omega arith)
      by (Cut t) is h = let z : ◌≡◌ {A = ℕ} 0 1 = cc in absurd (omega arith)
      by (Whole t p) is h =
          let there = holds s at (Whole t p) is t p refl in
          let len : p.len ≡ l.1 = sym (part_length s at (Whole t p) is t p refl) ∙ eqb-true (length (part_of p s)) l.1 (and_right (eqb t l.0) (eqb (length (part_of p s)) l.1) h) in
          let tag : t ≡ l.0 = eqb-true t l.0 (and_left (eqb t l.0) (eqb (length (part_of p s)) l.1) h) in
          record {
            long = omega (arith, there.fits, there.begins);
            reads = read_at s at (Whole t p) is ∙ rw (tag, there.begins, len);
          }

  pub long-at : at + 3 + l.1 ≤ length s
  long-at = stands.long

none_left : (at : ℕ) (s : List ℕ) → is_none (drop at s) ≡ leb (length s) at
none_left at s = by (drop at s) (length-drop at s)
  where
    by : (d : List ℕ) → length d ≡ length s - at → is_none d ≡ leb (length s) at
    by [] h = sym (le-leb (length s) at (omega arith))
    by (b ∷ d) h = sym (lt-leb (length s) at (omega arith))

abbrev held : Bool → List ℕ → Option (List ℕ)
held b s = if b then some s else none

-- exactly these fields, by their places
contents_at_lem : (ls : List (ℕ × ℕ)) (at : ℕ) (s : List ℕ) → contents_in ls (drop at s) ≡ held (are_at ls at s) (contents_at ls at s)
unfolding contents_in are_at contents_at content_by with_content is_at is_of
contents_at_lem [] at s = ap (λ (b : Bool). held b []) (none_left at s)
contents_at_lem (l ∷ ls) at s = by (contents_at_lem ls (at + 3 + l.1) s) (is_at s at l) refl
  where
    more : (b : Bool) (c d : List ℕ) → with_content c (held b d) ≡ held b (c ++ d)
    more true c d = refl
    more false c d = refl

    other : (g : stored.Field) → is_of l g ≡ false → content_by l g (λ r. contents_in ls r) ≡ none
    other stored.ended h = refl
    other (stored.cut t) h = refl
    other (stored.whole t c r) h = rw h

    by : contents_in ls (drop (at + 3 + l.1) s) ≡ held (are_at ls (at + 3 + l.1) s) (contents_at ls (at + 3 + l.1) s)
        → (b : Bool) → is_at s at l ≡ b → contents_in (l ∷ ls) (drop at s) ≡ held (b && are_at ls (at + 3 + l.1) s) (take l.1 (drop (at + 3) s) ++ contents_at ls (at + 3 + l.1) s)
    by rest true h =
        let x = stands s at l h in
        let len : length (take l.1 (drop (at + 3) s)) ≡ l.1 = length-take-le l.1 (drop (at + 3) s) (rw length-drop (omega (arith, x.long))) in
        rw (x.reads, eq-eqb l.0 l.0 refl, len, eq-eqb l.1 l.1 refl, rest) (more (are_at ls (at + 3 + l.1) s) (take l.1 (drop (at + 3) s)) (contents_at ls (at + 3 + l.1) s))
    by rest false h = other (field (drop at s)) h

one-at : (s : List ℕ) (k : ℕ) → k < length s → take 1 (drop k s) ≡ get_or s k 0 ∷ []
one-at s k h = rw (drop-cons s k 0 h)

two_at : (s : List ℕ) (k : ℕ) → k + 1 < length s → take 2 (drop k s) ≡ get_or s k 0 ∷ get_or s (k + 1) 0 ∷ []
two_at s k h = rw (add-one, drop-cons s k 0 (omega arith), drop-cons s (suc k) 0 (omega arith))

module _ (s : List ℕ) where
  pub version-there : is_at s 0 (1, 1) ≡ true → Some (get_or s 3 0) ≡ version_in s
  unfolding version_in version_of
  version-there h = let x = stands s 0 (1, 1) h in rw (x.reads, one-at s 3 (omega (arith, x.long)))

  pub no-version : is_at s 0 (1, 1) ≡ false → None ≡ version_in s
  unfolding version_in version_of is_at is_of
  no-version h = by (field s) h
    where
      by : (g : stored.Field) → is_of (1, 1) g ≡ false → None ≡ answered (version_of g)
      by stored.ended h = refl
      by (stored.cut t) h = refl
      by (stored.whole t c r) h = rw h

  module _ (v : ℕ) where
    pub not-held : are_at (layout v) 0 s ≡ false → held_in (contents_in (layout v) s) ≡ Refused 61
    unfolding held_in
    not-held h = rw (contents_at_lem (layout v) 0 s, h)

    module _ (h : are_at (layout v) 0 s ≡ true) where
      from-fourth : are_at ((4, 1) ∷ (if has_longest v then (5, 2) ∷ [] else [])) 12 s ≡ true
      unfolding layout are_at
      from-fourth =
          and_right (is_at s 8 (3, 1)) (are_at ((4, 1) ∷ (if has_longest v then (5, 2) ∷ [] else [])) 12 s)
          (and_right (is_at s 4 (2, 1)) (are_at ((3, 1) ∷ (4, 1) ∷ (if has_longest v then (5, 2) ∷ [] else [])) 8 s)
          (and_right (is_at s 0 (1, 1)) (are_at ((2, 1) ∷ (3, 1) ∷ (4, 1) ∷ (if has_longest v then (5, 2) ∷ [] else [])) 4 s) h))

      pub long-four : 16 ≤ length s
      unfolding layout are_at
      long-four = long-at s 12 (4, 1) (and_left (is_at s 12 (4, 1)) (are_at (if has_longest v then (5, 2) ∷ [] else []) 16 s) from-fourth)

      pub long-six : has_longest v ≡ true → 21 ≤ length s
      unfolding layout are_at
      long-six k = long-at s 16 (5, 2) (and_left (is_at s 16 (5, 2)) (leb (length s) 21) (rw k at (and_right (is_at s 12 (4, 1)) (are_at (if has_longest v then (5, 2) ∷ [] else []) 16 s) from-fourth)))

      settings-are : Some v ≡ version_in s → settings_in (contents_at (layout v) 0 s) ≡ settings_at v s
      unfolding layout are_at contents_at settings_in settings_at
      settings-are e =
          let version : get_or s 3 0 ≡ v = cc (version-there (and_left (is_at s 0 (1, 1)) _ h) ∙ sym e) in
          let long = long-four in
          rw (one-at s 3 (omega arith), one-at s 7 (omega arith), one-at s 11 (omega arith), one-at s 15 (omega arith), version)
          (ap (λ (n : ℕ). record { version = v; table = get_or s 7 0; profile = get_or s 11 0; width = get_or s 15 0; longest = n }) (by (has_longest v) refl))
        where
          by : (k : Bool) → has_longest v ≡ k
              → (if k then two_bytes (get_or (contents_at (if k then (5, 2) ∷ [] else []) 16 s) 0 0) (get_or (contents_at (if k then (5, 2) ∷ [] else []) 16 s) 1 0) else 4096) ≡ (if k then two_bytes (get_or s 19 0) (get_or s 20 0) else 4096)
          by true q = rw (two_at s 19 (omega (arith, long-six q)))
          by false q = refl

      pub held_by : Some v ≡ version_in s → held_in (contents_in (layout v) s) ≡ (if are_settings (settings_at v s) then Held (settings_at v s) else Refused 62)
      unfolding held_in
      held_by e = rw (contents_at_lem (layout v) 0 s, h, settings-are e)

-- the fields of a version, each by its place
module _ (s : List ℕ) (v : ℕ) where
  pub are-four : has_longest v ≡ false → (is_at s 0 (1, 1) && is_at s 4 (2, 1) && is_at s 8 (3, 1) && is_at s 12 (4, 1) && leb (length s) 16) ≡ are_at (layout v) 0 s
  unfolding layout are_at
  are-four h = rw h (simp and_assoc)

  pub are-five : has_longest v ≡ true
      → (is_at s 0 (1, 1) && is_at s 4 (2, 1) && is_at s 8 (3, 1) && is_at s 12 (4, 1) && is_at s 16 (5, 2) && leb (length s) 21) ≡ are_at (layout v) 0 s
  unfolding layout are_at
  are-five h = rw h (simp and_assoc)
