-- Laws of fields with the empty ones left out, over any form: they rise, and each content is found; and fields that rise, none of them empty, are
-- told by their contents.
-- Assumes nothing.
use Rattle.std.specs.Prelude.{if◌then◌else◌}
use mathlib.Core.Path.{◌≡◌, refl, sym, ap, subst, ◌∙◌}
use mathlib.Core.Bool.{Bool, true, false, ◌&&◌, not}
use mathlib.Core.List.{List, [], ◌∷◌}
use mathlib.Core.Option.{Option, none, some}
use Prim.Native.Nat.{ℕ, zero, suc, ◌+◌, ◌≤◌, ◌<◌}
use native.Mathlib.Decide.{ℕ_discrete}
use native.Mathlib.Omega.{arith}
use lib.Dec.{eqb, ltb}
use lib.ListN.{length}
use borrow.Author.Tests.{ltb-true, lt-ltb, eqb-true, eq-eqb, ne_eqb, not-false}
use Rattle.rules.specs.Bytes.{is_none, all, each}
use Rattle.rules.specs.Stored.{Form, is_wrong_tag, is_wrong_content, Tagged, content_of, or_empty}
use Rattle.rules.specs.Storing.{in_two, tagged, field_bytes, fields_bytes, filled}
use Rattle.rules.proofs.Lists.{all_append}
use Rattle.rules.proofs.Tests.{and_left, and_right, or_left, or_right}
use Rattle.rules.proofs.Fields as written
use Rattle.rules.proofs.Fields.{is_byte, Rising}

-- rising tags behind `last`
unfoldable pub rise : ℕ → List Tagged → Bool
rise last [] = true
rise last (f ∷ fs) = ltb last f.tag && rise f.tag fs

-- a field that a form takes unless it is empty
pub record Fits (form : Form) (f : Tagged) : Type 0 where
  pub known : form.knows f.tag ≡ true
  pub fits : is_none f.content ≡ false → form.fits f.tag f.content ≡ true
  pub short : length f.content < 65536

pub data AllFit (form : Form) : List Tagged → Type 0 where
  fit_none : AllFit form []
  fit-one : {f : Tagged} {fs : List Tagged} → Fits form f → AllFit form fs → AllFit form (f ∷ fs)

module _ (form : Form) where
  known-tag : (last t : ℕ) → form.knows t ≡ true → last < t → is_wrong_tag form last t ≡ false
  unfolding is_wrong_tag
  known-tag last t k h = rw (k, lt-ltb last t h)

  pub filled-rise : (last first : ℕ) (fs : List Tagged) → last ≤ first → rise first fs ≡ true → AllFit form fs → Rising form last (filled fs)
  unfolding rise filled is_wrong_content
  filled-rise last first [] h r fit_none = written.none
  filled-rise last first (f ∷ fs) h r (fit-one k ks) =
      let above : first < f.tag = ltb-true first f.tag (and_left (ltb first f.tag) (rise f.tag fs) r) in
      let behind = and_right (ltb first f.tag) (rise f.tag fs) r in
      by (is_none f.content) refl (filled-rise last f.tag fs (omega arith) behind ks) (filled-rise f.tag f.tag fs (omega arith) behind ks) above
    where
      by : (b : Bool) → is_none f.content ≡ b → Rising form last (filled fs) → Rising form f.tag (filled fs) → first < f.tag
          → Rising form last (if b then filled fs else (f ∷ filled fs))
      by true e x y above = x
      by false e x y above = written.more (known-tag last f.tag k.known (omega arith)) (ap not (k.fits e)) k.short y

-- a content that there is, unless it is empty
abbrev pub unless_none : List ℕ → Option (List ℕ)
unless_none [] = none
unless_none (x ∷ s) = some (x ∷ s)

pub or_empty_unless : (s : List ℕ) → or_empty (unless_none s) ≡ s
or_empty_unless [] = refl
or_empty_unless (x ∷ s) = refl

none_above : (t last : ℕ) (fs : List Tagged) → rise last fs ≡ true → t ≤ last → content_of t (filled fs) ≡ none
unfolding rise filled content_of
none_above t last [] r h = refl
none_above t last (f ∷ fs) r h =
    let above : last < f.tag = ltb-true last f.tag (and_left (ltb last f.tag) (rise f.tag fs) r) in
    by f.content (ne_eqb f.tag t (λ e. omega arith)) (none_above t f.tag fs (and_right (ltb last f.tag) (rise f.tag fs) r) (omega arith))
  where
    by : (c : List ℕ) → eqb f.tag t ≡ false → content_of t (filled fs) ≡ none → content_of t (if is_none c then filled fs else (tagged f.tag c ∷ filled fs)) ≡ none
    by [] e k = k
    by (x ∷ c) e k = rw e k

-- the content of a tag among rising ones
pub content_filled : (t last : ℕ) (fs : List Tagged) → rise last fs ≡ true → content_of t (filled fs) ≡ unless_none (or_empty (content_of t fs))
unfolding rise filled content_of
content_filled t last [] r = refl
content_filled t last (f ∷ fs) r =
    let behind = and_right (ltb last f.tag) (rise f.tag fs) r in
    by f.content (ℕ_discrete f.tag t) (content_filled t f.tag fs behind) (λ e. none_above t f.tag fs behind (omega arith))
  where
    by : (c : List ℕ) → Dec (f.tag ≡ t) → content_of t (filled fs) ≡ unless_none (or_empty (content_of t fs)) → (f.tag ≡ t → content_of t (filled fs) ≡ none)
        → content_of t (if is_none c then filled fs else (tagged f.tag c ∷ filled fs)) ≡ unless_none (or_empty (if eqb f.tag t then some c else content_of t fs))
    by [] (yes e) k n = rw (eq-eqb f.tag t e) (n e)
    by [] (no e) k n = rw (ne_eqb f.tag t e) k
    by (x ∷ c) (yes e) k n = rw (eq-eqb f.tag t e)
    by (x ∷ c) (no e) k n = rw (ne_eqb f.tag t e) k

-- what is so of a content among fields that rise
module _ (form : Form) where
  pub record Found (last t : ℕ) (c : List ℕ) : Type 0 where
    pub above : last < t
    pub known : form.knows t ≡ true
    pub fits : form.fits t c ≡ true
    pub short : length c < 65536

  pub found : {last : ℕ} {fs : List Tagged} → Rising form last fs → (t : ℕ) (c : List ℕ) → content_of t fs ≡ some c → Found last t c
  unfolding content_of is_wrong_tag is_wrong_content
  found written.none t c e = let z : ◌≡◌ {A = ℕ} 0 1 = cc in absurd (omega arith)
  found {last} (written.more {f = f} {fs = fs} tag content short rest) t c e = by (eqb f.tag t) refl e (found rest t c)
    where
      above : last < f.tag
      above = ltb-true last f.tag (not-false (ltb last f.tag) (or_right (not (form.knows f.tag)) (not (ltb last f.tag)) tag))

      by : (b : Bool) → eqb f.tag t ≡ b → (if b then some f.content else content_of t fs) ≡ some c → (content_of t fs ≡ some c → Found f.tag t c) → Found last t c
      by true h e k =
          let same : f.content ≡ c = cc in
          rw (← same, ← eqb-true f.tag t h)
          (record {
            above = above;
            known = not-false (form.knows f.tag) (or_left (not (form.knows f.tag)) (not (ltb last f.tag)) tag);
            fits = not-false (form.fits f.tag f.content) content;
            short = short;
          })
      by false h e k = let x = k e in record { above = omega (arith, above, x.above); known = x.known; fits = x.fits; short = x.short }

-- of bytes, each content is bytes
pub bytes_of : (fs : List Tagged) → all is_byte (fields_bytes fs) ≡ true → (t : ℕ) (c : List ℕ) → content_of t fs ≡ some c → all is_byte c ≡ true
unfolding fields_bytes each content_of field_bytes
bytes_of [] b t c e = let z : ◌≡◌ {A = ℕ} 0 1 = cc in absurd (omega arith)
bytes_of (f ∷ fs) b t c e =
    let head = f.tag ∷ in_two (length f.content) in
    let both = sym (all_append is_byte (field_bytes f) (fields_bytes fs)) ∙ b in
    let one = and_left (all is_byte (field_bytes f)) (all is_byte (fields_bytes fs)) both in
    let here = and_right (all is_byte head) (all is_byte f.content) (sym (all_append is_byte head f.content) ∙ one) in
    by (eqb f.tag t) e here (bytes_of fs (and_right (all is_byte (field_bytes f)) (all is_byte (fields_bytes fs)) both) t c)
  where
    by : (k : Bool) → (if k then some f.content else content_of t fs) ≡ some c → all is_byte f.content ≡ true → (content_of t fs ≡ some c → all is_byte c ≡ true) → all is_byte c ≡ true
    by true e here more = let same : f.content ≡ c = cc in rw (← same) here
    by false e here more = more e

-- n tags behind `last`, with the content of each
unfoldable pub up_to : ℕ → ℕ → (ℕ → List ℕ) → List Tagged
up_to last zero c = []
up_to last (suc n) c = tagged (suc last) (c (suc last)) ∷ up_to (suc last) n c

up_to_same : (last n : ℕ) (c d : ℕ → List ℕ) → ((t : ℕ) → last < t → c t ≡ d t) → up_to last n c ≡ up_to last n d
unfolding up_to
up_to_same last zero c d h = refl
up_to_same last (suc n) c d h = rw (h (suc last) (omega arith), up_to_same (suc last) n c d (λ t k. h t (omega arith)))

-- contents by their tags
abbrev pub by_tag : List Tagged → ℕ → List ℕ
by_tag fs t = or_empty (content_of t fs)

no_content : (form : Form) (last : ℕ) (fs : List Tagged) → Rising form last fs → (t : ℕ) → t ≤ last → content_of t fs ≡ none
no_content form last fs r t h = by (content_of t fs) refl
  where
    by : (o : Option (List ℕ)) → content_of t fs ≡ o → o ≡ none
    by none e = refl
    by (some c) e = absurd (omega (arith, (found form r t c e).above))

-- fields that rise, none of them empty and none with a tag above the last of n, are told by their contents
module _ (form : Form) where
  abbrev Told : ℕ → ℕ → List Tagged → Type 0
  Told last n fs = Rising form last fs → ((t : ℕ) (c : List ℕ) → content_of t fs ≡ some c → (t ≤ last + n) × (is_none c ≡ false)) → filled (up_to last n (by_tag fs)) ≡ fs

  none_told : (last n : ℕ) → filled (up_to last n (by_tag [])) ≡ []
  unfolding up_to filled content_of
  none_told last zero = refl
  none_told last (suc n) = none_told (suc last) n

  pub told : (n last : ℕ) (fs : List Tagged) → Told last n fs
  unfolding up_to filled content_of is_wrong_tag
  told n last [] r h = none_told last n
  told zero last (f ∷ fs) (written.more tag content short rest) h =
      let x = h f.tag f.content (rw (eq-eqb f.tag f.tag refl)) in
      absurd (omega (arith, x.0, ltb-true last f.tag (not-false (ltb last f.tag) (or_right (not (form.knows f.tag)) (not (ltb last f.tag)) tag))))
  told (suc n) last (f ∷ fs) (written.more tag content short rest) h = by (ℕ_discrete f.tag (suc last)) (λ r k. told n (suc last) fs r k) (λ r k. told n (suc last) (f ∷ fs) r k)
    where
      above : last < f.tag
      above = ltb-true last f.tag (not-false (ltb last f.tag) (or_right (not (form.knows f.tag)) (not (ltb last f.tag)) tag))

      here : content_of f.tag (f ∷ fs) ≡ some f.content
      here = rw (eq-eqb f.tag f.tag refl)

      -- those behind the first
      further : (t : ℕ) (c : List ℕ) → content_of t fs ≡ some c → content_of t (f ∷ fs) ≡ some c
      further t c e = rw (ne_eqb f.tag t (λ q. omega (arith, (found form rest t c e).above))) e

      first : f.tag ≡ suc last → filled (up_to (suc last) n (by_tag fs)) ≡ fs → filled (up_to last (suc n) (by_tag (f ∷ fs))) ≡ f ∷ fs
      first e k =
          let is : by_tag (f ∷ fs) (suc last) ≡ f.content = subst (λ (t : ℕ). or_empty (content_of t (f ∷ fs)) ≡ f.content) e (ap or_empty here) in
          let same : up_to (suc last) n (by_tag (f ∷ fs)) ≡ up_to (suc last) n (by_tag fs) = up_to_same (suc last) n (by_tag (f ∷ fs)) (by_tag fs) (λ t q. rw (ne_eqb f.tag t (λ i. omega arith))) in
          rw (is, (h f.tag f.content here).1, same, k, ← e)

      later : content_of (suc last) (f ∷ fs) ≡ none → filled (up_to (suc last) n (by_tag (f ∷ fs))) ≡ f ∷ fs → filled (up_to last (suc n) (by_tag (f ∷ fs))) ≡ f ∷ fs
      later e k = rw e k

      by : Dec (f.tag ≡ suc last) → Told (suc last) n fs → Told (suc last) n (f ∷ fs) → filled (up_to last (suc n) (by_tag (f ∷ fs))) ≡ f ∷ fs
      by (yes e) x y = first e (x (rw e at rest) (λ t c q. let z = h t c (further t c q) in (omega (arith, z.0), z.1)))
      by (no e) x y =
          let r : Rising form (suc last) (f ∷ fs) = written.more (known-tag form (suc last) f.tag (not-false (form.knows f.tag) (or_left (not (form.knows f.tag)) (not (ltb last f.tag)) tag)) (omega (arith, above))) content short rest in
          later (no_content form (suc last) (f ∷ fs) r (suc last) (omega arith)) (y r (λ t c q. let z = h t c q in (omega (arith, z.0), z.1)))
