-- Laws of reading a stored reference: what each answer tells, and that there is a single answer.
-- Assumes nothing.
use Rattle.std.specs.Prelude.{Some, None, if◌then◌else◌}
use Rattle.std.specs.Prelude.{Option as Optional}
use mathlib.Core.Path.{◌≡◌, refl, sym, ap, ◌∙◌}
use mathlib.Core.Bool.{Bool, true, false, ◌&&◌, ◌||◌, not}
use mathlib.Core.List.{List, [], ◌∷◌, ◌++◌, append_assoc}
use mathlib.Core.Option.{Option, none, some}
use Prim.Native.Nat.{ℕ, zero, suc, ◌+◌, ◌%◌, ◌≤◌}
use native.Mathlib.Omega.{arith}
use lib.Dec.{eqb, ltb}
use lib.ListN.{length, length-append}
use borrow.Author.Tests.{eq-eqb, ne_eqb, eqb-true, lt-ltb}
use Rattle.rules.specs.declared.Cds.{Cds}
use Rattle.rules.specs.declared.Part.{Part}
use Rattle.rules.specs.Bytes.{◌↯◌, first_number, Result, given, refused, unless}
use Rattle.rules.specs.Record.{part_of}
use Rattle.rules.specs.Reference.{Reference}
use Rattle.rules.specs.Stored as stored
use Rattle.rules.specs.Stored.{Tagged, Contents, reference_form, fields, content_of, contents_of, exceptions_in, or_empty, joined_letters, is_incomplete, is_full, is_begun_early, are_wrong_bounds, content_tests, bounds_in, reference_in, assembled, assembled_in, is_joined}
use Rattle.rules.proofs.Tests.{or_right, first_clear}
use Rattle.fields.specs.Places.{content_at, part_or_empty}
use Rattle.fields.specs.Refusals.{refusal_in, tagged_in}
use Rattle.fields.proofs.Places.{length_of_part}
use Rattle.fields.proofs.Order.{given-fields}
use Rattle.fields.proofs.Contents.{content_in, has, found}
use Rattle.stored_places.specs.declared.Places.{Places}
use Rattle.stored_places.specs.Refusal.{is_there, is_early, places_refusal}
use Rattle.stored_fields.specs.declared.field_places.StoredAt.{StoredAt}
use Rattle.stored_fields.specs.Reading.{bounds_by, cds_in, Fit, placed_reference, told_reference, Stand, Reads}
use Rattle.stored_fields.proofs.Form.{bounds-length, wide-length, second-length, third-length, table-length, exceptions-length}

pub refuses : (s : List ℕ) (x : Result Reference) (n : ℕ) → x ≡ refused n → Reads s x (refused n)
unfolding told_reference
refuses s x n e = record { says = sym e; stands = λ p q. let z : ◌≡◌ {A = ℕ} 0 1 = cc in absurd (omega arith) }

-- 20, 21 or 23
pub refused_fields : (s : List ℕ) (n : ℕ) → n ≡ refusal_in (fields reference_form s) → (n ≡ 0 → ⊥) → assembled_in (fields reference_form s) ≡ refused n
unfolding refusal_in assembled_in
refused_fields s n e k = by (fields reference_form s) e
  where
    by : (x : Result (List Tagged)) → n ≡ refusal_in x → assembled_in x ≡ refused n
    by (given fs) h = absurd (k h)
    by (refused m) h = ap refused (sym h)

-- none of them: by the contents that are found
module _ (s : List ℕ) (unrefused : refusal_in (fields reference_form s) ≡ 0) where
  abbrev fs : List Tagged
  fs = tagged_in (fields reference_form s)

  pub are-assembled : assembled_in (fields reference_form s) ≡ assembled (contents_of fs)
  unfolding assembled_in
  are-assembled = ap assembled_in (given-fields reference_form s unrefused)

  pub are-joined : is_joined (fields reference_form s) ≡ stored.is_there (content_of 5 fs)
  unfolding is_joined
  are-joined = ap is_joined (given-fields reference_form s unrefused)

  -- a content, or none
  content-is : (t : ℕ) (c : Optional Part) → c ≡ content_at t s → content_of t fs ≡ content_in s c
  content-is t c e = has reference_form s unrefused t c e

  -- 22
  pub no-letters : None ≡ content_at 1 s → assembled_in (fields reference_form s) ≡ refused 22
  unfolding assembled contents_of content_tests is_incomplete first_number unless
  no-letters one = are-assembled ∙ rw (content-is 1 None one)

  -- where a content stands that may be absent
  module _ (t : ℕ) (p : Part) (is : p ≡ part_or_empty (content_at t s)) where
    pub within : p.at + p.len ≤ length s
    unfolding part_or_empty
    within = rw is (by (content_at t s) refl)
      where
        by : (c : Optional Part) → c ≡ content_at t s → (part_or_empty c).at + (part_or_empty c).len ≤ length s
        by (Some p) e = (found reference_form s unrefused t (Some p) e p refl).within
        by None e = omega arith

    pub or-empty : or_empty (content_of t fs) ≡ part_of p s
    unfolding part_or_empty part_of
    or-empty = rw (content-is t (content_at t s) refl, is) (by (content_at t s))
      where
        by : (c : Optional Part) → or_empty (content_in s c) ≡ part_of (part_or_empty c) s
        by (Some p) = refl
        by None = refl

    -- it is there exactly if its place has bytes, where the tag takes no empty content
    pub there : ((c : List ℕ) → reference_form.fits t c ≡ true → 1 ≤ length c) → stored.is_there (content_of t fs) ≡ is_there p
    unfolding part_or_empty
    there full = rw (content-is t (content_at t s) refl, is) (by (content_at t s) refl)
      where
        by : (c : Optional Part) → c ≡ content_at t s → stored.is_there (content_in s c) ≡ is_there (part_or_empty c)
        by (Some p) e =
            let x = found reference_form s unrefused t (Some p) e p refl in
            let long : 1 ≤ p.len = rw (length_of_part s p x.within) at (full (part_of p s) x.fits) in
            sym (ap not (ne_eqb p.len 0 (λ z. omega (arith, z, long))))
        by None e = refl

    -- a fact of contents that fit, of one that is there
    pub fitting : (n : ℕ) → ((c : List ℕ) → reference_form.fits t c ≡ true → length c ≡ n) → (p.len ≡ 0 → ⊥) → length (part_of p s) ≡ n
    unfolding part_or_empty
    fitting n sized h = rw is (by (content_at t s) refl (λ z. h (ap (λ (p : Part). p.len) is ∙ z)))
      where
        by : (c : Optional Part) → c ≡ content_at t s → ((part_or_empty c).len ≡ 0 → ⊥) → length (part_of (part_or_empty c) s) ≡ n
        by (Some p) e k = sized (part_of p s) (found reference_form s unrefused t (Some p) e p refl).fits
        by None e k = absurd (k refl)

  -- a content that is there fits its tag
  pub fits-there : (t : ℕ) (b : List ℕ) → content_of t fs ≡ some b → reference_form.fits t b ≡ true
  fits-there t b h = by (content_at t s) refl
    where
      by : (c : Optional Part) → c ≡ content_at t s → reference_form.fits t b ≡ true
      by (Some q) e =
          let same : part_of q s ≡ b = cc (sym (content-is t (Some q) e) ∙ h) in
          rw (← same) (found reference_form s unrefused t (Some q) e q refl).fits
      by None e = let z : none ≡ some b = sym (content-is t None e) ∙ h in let w : ◌≡◌ {A = ℕ} 0 1 = cc in absurd (omega arith)

  pub threes-of : (q : Part) → q ≡ part_or_empty (content_at 4 s) → q.len % 3 ≡ 0
  unfolding part_or_empty
  threes-of q is = rw is (by (content_at 4 s) refl)
    where
      by : (c : Optional Part) → c ≡ content_at 4 s → (part_or_empty c).len % 3 ≡ 0
      by (Some q) e =
          let x = found reference_form s unrefused 4 (Some q) e q refl in
          rw (length_of_part s q x.within) at (exceptions-length (part_of q s) x.fits)
      by None e = refl

-- where the reference stands
module _ (s : List ℕ) (p : Places) (f : Stand s p) where
  abbrev c : Contents
  c = contents_of (tagged_in (fields reference_form s))

  abbrev length_at : (q : Part) → q.at + q.len ≤ length s → length (part_of q s) ≡ q.len
  length_at q h = length_of_part s q h

  letters-within : p.letters.at + p.letters.len ≤ length s
  letters-within = (found reference_form s f.unrefused 1 (Some p.letters) f.letters p.letters refl).within

  letters-are : c.letters ≡ some (part_of p.letters s)
  unfolding contents_of
  letters-are = content-is s f.unrefused 1 (Some p.letters) f.letters

  -- the fields that must not be empty
  bounds-there : stored.is_there c.bounds ≡ is_there p.bounds
  unfolding contents_of
  bounds-there = there s f.unrefused 2 p.bounds f.bounds (λ c h. omega (arith, bounds-length c h))

  wide-there : stored.is_there c.wide ≡ is_there p.wide
  unfolding contents_of
  wide-there = there s f.unrefused 7 p.wide f.wide (λ c h. omega (arith, wide-length c h))

  table-there : stored.is_there c.table ≡ is_there p.table
  unfolding contents_of
  table-there = there s f.unrefused 3 p.table f.table (λ c h. omega (arith, table-length c h))

  second-there : stored.is_there c.second ≡ is_there p.second
  unfolding contents_of
  second-there = there s f.unrefused 5 p.second f.second second-length

  third-there : stored.is_there c.third ≡ is_there p.third
  unfolding contents_of
  third-there = there s f.unrefused 6 p.third f.third third-length

  second_is : or_empty c.second ≡ part_of p.second s
  unfolding contents_of
  second_is = or-empty s f.unrefused 5 p.second f.second

  third-is : or_empty c.third ≡ part_of p.third s
  unfolding contents_of
  third-is = or-empty s f.unrefused 6 p.third f.third

  second-length-is : length (or_empty c.second) ≡ p.second.len
  second-length-is = ap length second_is ∙ length_at p.second (within s f.unrefused 5 p.second f.second)

  joined_is : joined_letters c ≡ part_of p.letters s ++ (part_of p.second s ++ part_of p.third s)
  unfolding joined_letters
  joined_is = rw (letters-are, second_is, third-is) (append_assoc (part_of p.letters s) (part_of p.second s) (part_of p.third s))

  -- L
  size_is : length (joined_letters c) ≡ p.letters.len + (p.second.len + p.third.len)
  size_is =
      ap length joined_is ∙ length-append (part_of p.letters s) (part_of p.second s ++ part_of p.third s)
      ∙ rw (length-append (part_of p.second s) (part_of p.third s), length_at p.letters letters-within, length_at p.second (within s f.unrefused 5 p.second f.second), length_at p.third (within s f.unrefused 6 p.third f.third))

  first-early : is_begun_early c.letters c.second ≡ is_early p.letters p.second
  unfolding is_begun_early is_full
  first-early = rw (second-there, letters-are, length_at p.letters letters-within)

  second-early : is_begun_early c.second c.third ≡ is_early p.second p.third
  unfolding is_begun_early is_full
  second-early = rw (third-there, second-length-is)

  -- without a field begun early, L is above 16,384 exactly if there is a second part or the first is that long
  long-is : is_early p.letters p.second ≡ false → is_early p.second p.third ≡ false
      → ltb 16384 (length (joined_letters c)) ≡ (is_there p.second || ltb 16384 p.letters.len)
  long-is one two = rw size_is (by (eqb p.second.len 0) (eqb p.third.len 0) (eqb p.letters.len 65535) refl refl refl one two)
    where
      by : (a b d : Bool) → eqb p.second.len 0 ≡ a → eqb p.third.len 0 ≡ b → eqb p.letters.len 65535 ≡ d
          → (not a && not d) ≡ false → (not b && not (eqb p.second.len 65535)) ≡ false
          → ltb 16384 (p.letters.len + (p.second.len + p.third.len)) ≡ (not a || ltb 16384 p.letters.len)
      by true true d e g h one two =
          let same : p.letters.len + (p.second.len + p.third.len) ≡ p.letters.len = omega (arith, eqb-true p.second.len 0 e, eqb-true p.third.len 0 g) in
          ap (ltb 16384) same
      by true false d e g h one two =
          let empty : p.second.len ≡ 0 = eqb-true p.second.len 0 e in
          let short : eqb p.second.len 65535 ≡ false = ne_eqb p.second.len 65535 (λ z. omega (arith, z, empty)) in
          let z : ◌≡◌ {A = Bool} true false = ap not (sym short) ∙ two in
          let w : ◌≡◌ {A = ℕ} 0 1 = cc in absurd (omega arith)
      by false b true e g h one two = lt-ltb 16384 (p.letters.len + (p.second.len + p.third.len)) (omega (arith, eqb-true p.letters.len 65535 h))
      by false b false e g h one two = let w : ◌≡◌ {A = ℕ} 0 1 = cc in absurd (omega arith)

  refusal_is : first_number (content_tests c) ≡ places_refusal p
  unfolding content_tests is_incomplete are_wrong_bounds places_refusal
  refusal_is =
      rw (first-early, second-early, ap stored.is_there letters-are, bounds-there, wide-there, table-there)
      (by (is_early p.letters p.second) (is_early p.second p.third) refl refl)
    where
      same : (n m : Bool) → n ≡ m → (u v : Bool) → (if n then u else v) ≡ (if m then u else v)
      same n m h u v = rw h

      by : (a b : Bool) → is_early p.letters p.second ≡ a → is_early p.second p.third ≡ b
          → first_number ((false || not (is_there p.bounds || is_there p.wide) || not (is_there p.table)) ↯ 22
          ∷ ((if ltb 16384 (length (joined_letters c)) then is_there p.bounds else is_there p.wide) || a || b) ↯ 25 ∷ [])
          ≡ first_number ((not (is_there p.bounds || is_there p.wide) || not (is_there p.table)) ↯ 22
          ∷ ((if is_there p.second || ltb 16384 p.letters.len then is_there p.bounds else is_there p.wide) || a || b) ↯ 25 ∷ [])
      by false false h k = rw (long-is h k)
      by true b h k = rw (or-true b (if ltb 16384 (length (joined_letters c)) then is_there p.bounds else is_there p.wide), or-true b (if is_there p.second || ltb 16384 p.letters.len then is_there p.bounds else is_there p.wide))
        where
          or-true : (b x : Bool) → (x || true || b) ≡ true
          or-true b true = refl
          or-true b false = refl
      by false true h k = rw (or-true (if ltb 16384 (length (joined_letters c)) then is_there p.bounds else is_there p.wide), or-true (if is_there p.second || ltb 16384 p.letters.len then is_there p.bounds else is_there p.wide))
        where
          or-true : (x : Bool) → (x || false || true) ≡ true
          or-true true = refl
          or-true false = refl

  assembled-is : assembled_in (fields reference_form s) ≡ unless (places_refusal p) (reference_in c)
  unfolding assembled
  assembled-is = are-assembled s f.unrefused ∙ rw refusal_is

  pub refused-places : (n : ℕ) → n ≡ places_refusal p → (n ≡ 0 → ⊥) → assembled_in (fields reference_form s) ≡ refused n
  unfolding unless
  refused-places n e k = assembled-is ∙ rw (← e) (by n k)
    where
      by : (n : ℕ) → (n ≡ 0 → ⊥) → unless n (reference_in c) ≡ refused n
      by zero k = absurd (k refl)
      by (suc n) k = refl

  module _ (clear : places_refusal p ≡ 0) where
    -- what 22 leaves
    pub left : ((is_there p.bounds || is_there p.wide) ≡ true) × (is_there p.table ≡ true)
    unfolding places_refusal
    left = by (is_there p.bounds || is_there p.wide) (is_there p.table) (first_clear (not (is_there p.bounds || is_there p.wide) || not (is_there p.table)) 21 _ clear).0
      where
        by : (a b : Bool) → (not a || not b) ≡ false → (a ≡ true) × (b ≡ true)
        by true true h = (refl, refl)
        by true false h = let w : ◌≡◌ {A = ℕ} 0 1 = cc in absurd (omega arith)
        by false b h = let w : ◌≡◌ {A = ℕ} 0 1 = cc in absurd (omega arith)

    pub fit : Fit (part_of p.bounds s) (part_of p.wide s) (part_of p.table s)
    fit =
        record {
          narrow = λ h. fitting s f.unrefused 2 p.bounds f.bounds 4 bounds-length (λ z. h (length_at p.bounds bounds-within ∙ z));
          wide = λ h. fitting s f.unrefused 7 p.wide f.wide 8 wide-length (λ z. one-there (sym (length_at p.bounds bounds-within) ∙ h) z left.0);
          one = fitting s f.unrefused 3 p.table f.table 1 table-length (λ z. none-there z left.1);
        }
      where
        bounds-within : p.bounds.at + p.bounds.len ≤ length s
        bounds-within = within s f.unrefused 2 p.bounds f.bounds

        none-there : p.table.len ≡ 0 → not (eqb p.table.len 0) ≡ true → ⊥
        none-there z h = let w : ◌≡◌ {A = Bool} true false = sym h ∙ ap not (eq-eqb p.table.len 0 z) in let u : ◌≡◌ {A = ℕ} 0 1 = cc in omega arith

        one-there : p.bounds.len ≡ 0 → p.wide.len ≡ 0 → (is_there p.bounds || is_there p.wide) ≡ true → ⊥
        one-there z y h = let w : ◌≡◌ {A = Bool} true false = sym h ∙ rw (eq-eqb p.bounds.len 0 z, eq-eqb p.wide.len 0 y) in let u : ◌≡◌ {A = ℕ} 0 1 = cc in omega arith

    -- the bounds, whichever tag has them
    bounds-are : bounds_in c.bounds (or_empty c.wide) ≡ bounds_by (part_of p.bounds s) (part_of p.wide s)
    unfolding contents_of
    bounds-are =
        rw (or-empty s f.unrefused 7 p.wide f.wide)
        (by (content_of 2 (tagged_in (fields reference_form s))) (or-empty s f.unrefused 2 p.bounds f.bounds) (λ b h. bounds-length b (fitting-some b h)))
      where
        fitting-some : (b : List ℕ) → content_of 2 (tagged_in (fields reference_form s)) ≡ some b → reference_form.fits 2 b ≡ true
        fitting-some b h = fits-there s f.unrefused 2 b h

        by : (o : Option (List ℕ)) → or_empty o ≡ part_of p.bounds s → ((b : List ℕ) → o ≡ some b → length b ≡ 4) → bounds_in o (part_of p.wide s) ≡ bounds_by (part_of p.bounds s) (part_of p.wide s)
        by none e four = rw (← e)
        by (some []) e four = absurd (omega (arith, four [] refl))
        by (some (x ∷ b)) e four = rw (← e)

    reference-is : (d : Cds) → d ≡ cds_in (part_of p.bounds s) (part_of p.wide s) (part_of p.table s) (part_of p.end s)
        → reference_in c ≡ placed_reference s (record { cds = d; letters = p.letters; second = p.second; third = p.third; exceptions = p.exceptions })
    unfolding reference_in contents_of
    reference-is d is =
        rw (is, joined_is, bounds-are, or-empty s f.unrefused 3 p.table f.table, or-empty s f.unrefused 4 p.exceptions f.exceptions, or-empty s f.unrefused 8 p.end f.end)

    -- a third part only behind a second
    alone : p.second.len ≡ 0 → p.third.len ≡ 0
    unfolding places_refusal
    alone h = by (eqb p.third.len 0) refl
      where
        early : is_early p.second p.third ≡ false
        early =
            or_right (((if is_there p.second || ltb 16384 p.letters.len then is_there p.bounds else is_there p.wide) || is_early p.letters p.second)) (is_early p.second p.third)
            (first_clear _ 24 _ (first_clear (not (is_there p.bounds || is_there p.wide) || not (is_there p.table)) 21 _ clear).1).0

        by : (b : Bool) → eqb p.third.len 0 ≡ b → p.third.len ≡ 0
        by true e = eqb-true p.third.len 0 e
        by false e =
            let w : ◌≡◌ {A = Bool} true false = sym (rw (e, ne_eqb p.second.len 65535 (λ z. omega (arith, z, h)))) ∙ early in
            let u : ◌≡◌ {A = ℕ} 0 1 = cc in absurd (omega arith)

    pub reads : (d : Cds) → d ≡ cds_in (part_of p.bounds s) (part_of p.wide s) (part_of p.table s) (part_of p.end s)
        → Reads s (assembled_in (fields reference_form s)) (given (record { cds = d; letters = p.letters; second = p.second; third = p.third; exceptions = p.exceptions }))
    unfolding told_reference unless part_or_empty contents_of
    reads d is =
        record {
          says = sym (assembled-is ∙ rw (clear, reference-is d is));
          stands = λ q h.
              let same : record { cds = d; letters = p.letters; second = p.second; third = p.third; exceptions = p.exceptions } ≡ q = cc in
              rw (← same)
              (record {
                letters = ap part_or_empty f.letters;
                second = f.second;
                third = f.third;
                exceptions = f.exceptions;
                letters-within = letters-within;
                second-within = within s f.unrefused 5 p.second f.second;
                third-within = within s f.unrefused 6 p.third f.third;
                exceptions-within = within s f.unrefused 4 p.exceptions f.exceptions;
                threes = exceptions-threes;
                joined = are-joined s f.unrefused ∙ second-there;
                alone = alone;
              });
        }
      where
        exceptions-threes : p.exceptions.len % 3 ≡ 0
        exceptions-threes = threes-of s f.unrefused p.exceptions f.exceptions

-- two answers to the same bytes are the same
pub single : (s : List ℕ) (x : Result Reference) (r q : Result StoredAt) → Reads s x r → Reads s x q → r ≡ q
unfolding told_reference
single s x (refused n) (refused m) h k = let same : refused n ≡ refused m = h.says ∙ sym k.says in ap refused (numbers same)
  where
    numbers : {n m : ℕ} → ◌≡◌ {A = Result Reference} (refused n) (refused m) → n ≡ m
    numbers h = cc
single s x (refused n) (given p) h k = let same : refused n ≡ x = h.says in let z : ◌≡◌ {A = ℕ} 0 1 = cc k.says in absurd (omega arith)
single s x (given p) (refused m) h k = let same : x ≡ refused m = sym k.says in let z : ◌≡◌ {A = ℕ} 0 1 = cc h.says in absurd (omega arith)
single s x (given p) (given q) h k =
    let same = told (h.says ∙ sym k.says) in
    let letters : p.letters ≡ q.letters = (h.stands p refl).letters ∙ sym (k.stands q refl).letters in
    let second : p.second ≡ q.second = (h.stands p refl).second ∙ sym (k.stands q refl).second in
    let third : p.third ≡ q.third = (h.stands p refl).third ∙ sym (k.stands q refl).third in
    let exceptions : p.exceptions ≡ q.exceptions = (h.stands p refl).exceptions ∙ sym (k.stands q refl).exceptions in
    ap given (rw (ap (λ (r : Reference). r.cs) same, ap (λ (r : Reference). r.ce) same, ap (λ (r : Reference). r.table) same, ap (λ (r : Reference). r.end) same, letters, second, third, exceptions))
  where
    told : {a b : Reference} → given a ≡ given b → a ≡ b
    told h = cc
