-- The stored form of a reference: read back it is the same reference, and what was read is written with the same bytes, but for an empty tag 4.
-- Assumes nothing.
use Rattle.std.specs.Prelude.{if◌then◌else◌}
use mathlib.Core.Path.{◌≡◌, refl, sym, ap, ◌∙◌}
use mathlib.Core.Bool.{Bool, true, false, ◌&&◌, not}
use mathlib.Core.List.{List, [], ◌∷◌, ◌++◌, append_assoc}
use Prim.Native.Nat.{ℕ, suc, ◌+◌, ◌*◌, ◌%◌, ◌≤◌, ◌<◌}
use native.Mathlib.Decide.{dec_lt}
use native.Mathlib.Omega.{arith}
use lib.Dec.{eqb, leb, ltb}
use lib.ListN.{length, take, drop, get_or, length-take, length-drop, take-append-drop, drop_of_length-le}
use lib.Seq.{length-take-le, take-nil, drop-drop}
use borrow.Author.Tests.{le-leb, eqb-true, eq-eqb}
use Rattle.rules.specs.declared.Exception.{Exception}
use Rattle.rules.specs.Bytes.{is_none, each, first_number, Result, given, unless}
use Rattle.rules.specs.Reference.{Reference, at_stop, is_short_end, size, is_cut_short}
use Rattle.rules.specs.Refusal.{reference_refusal}
use Rattle.rules.specs.Stored.{two_bytes, four_bytes, Tagged, fields, content_of, reference_form, exceptions_in, or_empty, is_there, Contents, contents_of, joined_letters, is_incomplete, is_full, is_begun_early, are_wrong_bounds, content_tests, bounds_in, reference_in, assembled, assembled_in, checked, stored_reference}
use Rattle.rules.specs.Storing.{in_two, in_four, tagged, exception_bytes, is_long, held_by, filled, reference_fields, stored_form}
use Rattle.rules.proofs.Tests.{and_left}
use Rattle.rules.proofs.Reference.{Accepted, accepted}
use Rattle.rules.proofs.Fields.{two_back, read-written}
use Rattle.rules.proofs.Filled.{rise, Fits, AllFit, fit_none, fit-one, filled-rise, unless_none, or_empty_unless, content_filled}

-- exceptions in bytes, and back
pub exceptions_back : (es : List Exception) → exceptions_in (each exception_bytes es) ≡ es
unfolding exceptions_in each exception_bytes in_two
exceptions_back [] = refl
exceptions_back (e ∷ es) = rw (two_back e.codon, exceptions_back es)

length_exceptions : (es : List Exception) → length (each exception_bytes es) ≡ length es * 3
unfolding each exception_bytes in_two
length_exceptions [] = refl
length_exceptions (e ∷ es) = omega (arith, length_exceptions es)

-- the letters of the three fields
letters_back : (n : ℕ) (s : List ℕ) → take n s ++ take n (drop n s) ++ drop (n + n) s ≡ s
letters_back n s = rw (append_assoc, ← drop-drop n n s, take-append-drop n (drop n s)) (take-append-drop n s)

take_short : (n : ℕ) (s : List ℕ) → length (take n s) < n + 1
take_short n s = omega (arith, length-take n s)

drop_short : (n k : ℕ) (s : List ℕ) → length s ≤ n + k → length (drop n s) ≤ k
drop_short n k s h = omega (arith, length-drop n s)

-- a field is full where there are letters behind it
full_before : (n : ℕ) (s : List ℕ) → is_none (drop n s) ≡ false → length (take n s) ≡ n
full_before n s h = by (dec_lt (length s) n)
  where
    by : Dec (length s < n) → length (take n s) ≡ n
    by (yes k) = let e : drop n s ≡ [] = drop_of_length-le s {i = n} (omega arith) in let z : true ≡ false = sym (ap is_none e) ∙ h in let o : ◌≡◌ {A = ℕ} 0 1 = cc in absurd (omega arith)
    by (no k) = length-take-le n s (omega arith)

some_taken : (n : ℕ) (s : List ℕ) → is_none (take n s) ≡ false → is_none s ≡ false
some_taken n [] h = sym (ap is_none (take-nil n)) ∙ h
some_taken n (x ∷ s) h = refl

pub some_taken_of : (n : ℕ) (s : List ℕ) → 1 ≤ length s → is_none (take (suc n) s) ≡ false
some_taken_of n [] h = absurd (omega arith)
some_taken_of n (x ∷ s) h = refl

some_left : (s : List ℕ) → 1 ≤ length s → is_none s ≡ false
some_left [] h = absurd (omega arith)
some_left (x ∷ s) h = refl

one_or_more : (s : List ℕ) → is_none s ≡ false → leb 1 (length s) ≡ true
one_or_more [] h = let z : ◌≡◌ {A = ℕ} 0 1 = cc in absurd (omega arith)
one_or_more (x ∷ s) h = le-leb 1 (length (x ∷ s)) (omega arith)

-- bounds in two bytes each or in four, by whether L is above 16,384
abbrev pub narrow : Bool → ℕ → ℕ → List ℕ
narrow b cs ce = if b then [] else (in_two cs ++ in_two ce)

abbrev pub wide : Bool → ℕ → ℕ → List ℕ
wide b cs ce = if b then (in_four cs ++ in_four ce) else []

-- what tag 8 holds
abbrev pub end_in : ℕ → List ℕ
end_in end = if eqb end at_stop then [] else (end ∷ [])

narrow_fits : (b : Bool) (cs ce : ℕ) → is_none (narrow b cs ce) ≡ false → eqb (length (narrow b cs ce)) 4 ≡ true
unfolding in_two
narrow_fits true cs ce h = let z : ◌≡◌ {A = ℕ} 0 1 = cc in absurd (omega arith)
narrow_fits false cs ce h = refl

narrow_short : (b : Bool) (cs ce : ℕ) → length (narrow b cs ce) < 65536
unfolding in_two
narrow_short true cs ce = omega arith
narrow_short false cs ce = omega arith

wide_fits : (b : Bool) (cs ce : ℕ) → is_none (wide b cs ce) ≡ false → eqb (length (wide b cs ce)) 8 ≡ true
unfolding in_two in_four
wide_fits true cs ce h = refl
wide_fits false cs ce h = let z : ◌≡◌ {A = ℕ} 0 1 = cc in absurd (omega arith)

wide_short : (b : Bool) (cs ce : ℕ) → length (wide b cs ce) < 65536
unfolding in_two in_four
wide_short true cs ce = omega arith
wide_short false cs ce = omega arith

-- an end that is at a stop or known
end_fits : (end : ℕ) → (eqb end at_stop ≡ false → is_short_end end ≡ true) → is_none (end_in end) ≡ false → (eqb (length (end_in end)) 1 && is_short_end (get_or (end_in end) 0 0)) ≡ true
end_fits end k h = by (eqb end at_stop) refl h
  where
    by : (b : Bool) → eqb end at_stop ≡ b → is_none (if b then [] else (end ∷ [])) ≡ false
        → (eqb (length (if b then [] else (end ∷ []))) 1 && is_short_end (get_or (if b then [] else (end ∷ [])) 0 0)) ≡ true
    by true e h = let z : ◌≡◌ {A = ℕ} 0 1 = cc in absurd (omega arith)
    by false e h = k e

end_short : (end : ℕ) → length (end_in end) < 65536
end_short end = by (eqb end at_stop)
  where
    by : (b : Bool) → length (if b then [] else (end ∷ [])) < 65536
    by true = omega arith
    by false = omega arith

end_back : (end : ℕ) → get_or (end_in end) 0 at_stop ≡ end
end_back end = by (eqb end at_stop) refl
  where
    by : (b : Bool) → eqb end at_stop ≡ b → get_or (if b then [] else (end ∷ [])) 0 at_stop ≡ end
    by true e = sym (eqb-true end at_stop e)
    by false e = refl

-- the contents of eight fields, the empty ones left out
module _ (c₁ c₂ c₃ c₄ c₅ c₆ c₇ c₈ : List ℕ) where
  abbrev pub eight : List Tagged
  eight = tagged 1 c₁ ∷ tagged 2 c₂ ∷ tagged 3 c₃ ∷ tagged 4 c₄ ∷ tagged 5 c₅ ∷ tagged 6 c₆ ∷ tagged 7 c₇ ∷ tagged 8 c₈ ∷ []

  abbrev held_contents : Contents
  held_contents =
      record {
        letters = unless_none c₁;
        bounds = unless_none c₂;
        table = unless_none c₃;
        exceptions = unless_none c₄;
        second = unless_none c₅;
        third = unless_none c₆;
        wide = unless_none c₇;
        end = unless_none c₈;
      }

  eight-rise : rise 0 eight ≡ true
  unfolding rise
  eight-rise = refl

  contents-filled : contents_of (filled eight) ≡ held_contents
  unfolding contents_of content_of
  contents-filled =
      rw (
        content_filled 1 0 eight eight-rise,
        content_filled 2 0 eight eight-rise,
        content_filled 3 0 eight eight-rise,
        content_filled 4 0 eight eight-rise,
        content_filled 5 0 eight eight-rise,
        content_filled 6 0 eight eight-rise,
        content_filled 7 0 eight eight-rise,
        content_filled 8 0 eight eight-rise,
      )

there : (s : List ℕ) → is_there (unless_none s) ≡ not (is_none s)
there [] = refl
there (x ∷ s) = refl

begun_late : (c d : List ℕ) → (is_none d ≡ false → length c ≡ 65535) → is_begun_early (unless_none c) (unless_none d) ≡ false
unfolding is_begun_early is_full
begun_late c [] h = refl
begun_late c (x ∷ d) h = rw (or_empty_unless c, h refl)

-- contents that hold a reference: its letters in fields that are full before others, and the right bounds
module _ (r : Reference) (c₁ c₄ c₅ c₆ : List ℕ) (letters : c₁ ++ c₅ ++ c₆ ≡ r.letters) (some-letters : is_none c₁ ≡ false) (exceptions : exceptions_in c₄ ≡ r.exceptions)
    (first-full : is_none c₅ ≡ false → length c₁ ≡ 65535) (second-full : is_none c₆ ≡ false → length c₅ ≡ 65535) where
  abbrev held : Bool → Contents
  held b = held_contents c₁ (narrow b r.cs r.ce) (r.table ∷ []) c₄ c₅ c₆ (wide b r.cs r.ce) (end_in r.end)

  joined : (b : Bool) → joined_letters (held b) ≡ r.letters
  unfolding joined_letters
  joined b = rw (or_empty_unless c₁, or_empty_unless c₅, or_empty_unless c₆) letters

  complete : (b : Bool) → is_incomplete (held b) ≡ false
  unfolding is_incomplete in_two in_four
  complete true = rw (there c₁, some-letters)
  complete false = rw (there c₁, some-letters)

  right : (b : Bool) → ltb 16384 (length r.letters) ≡ b → are_wrong_bounds (held b) ≡ false
  unfolding are_wrong_bounds
  right true e = rw (joined true, e)
  right false e = rw (joined false, e)

  bounds-back : (b : Bool) → ((bounds_in (held b).bounds (or_empty (held b).wide)).cs ≡ r.cs) × ((bounds_in (held b).bounds (or_empty (held b).wide)).ce ≡ r.ce)
  unfolding bounds_in in_two in_four two_bytes four_bytes
  bounds-back true = (omega arith, omega arith)
  bounds-back false = (omega arith, omega arith)

  pub assembles : (b : Bool) → ltb 16384 (length r.letters) ≡ b → assembled (held b) ≡ given r
  unfolding assembled content_tests first_number unless reference_in
  assembles b e =
      rw (
        complete b,
        right b e,
        begun_late c₁ c₅ first-full,
        begun_late c₅ c₆ second-full,
        joined b,
        (bounds-back b).0,
        (bounds-back b).1,
        or_empty_unless c₄,
        exceptions,
        or_empty_unless (end_in r.end),
        end_back r.end,
      )

-- each content fits its tag
fits_letters : (s : List ℕ) → Fits reference_form (tagged 1 (take 65535 s))
unfolding reference_form
fits_letters s = record { known = refl; fits = λ h. refl; short = take_short 65535 s }

fits_narrow : (b : Bool) (cs ce : ℕ) → Fits reference_form (tagged 2 (narrow b cs ce))
unfolding reference_form
fits_narrow b cs ce = record { known = refl; fits = narrow_fits b cs ce; short = narrow_short b cs ce }

fits_table : (table : ℕ) → Fits reference_form (tagged 3 (table ∷ []))
unfolding reference_form
fits_table table = record { known = refl; fits = λ h. refl; short = omega arith }

fits_exceptions : (es : List Exception) → length es ≤ 16 → Fits reference_form (tagged 4 (each exception_bytes es))
unfolding reference_form
fits_exceptions es few =
    let long = length_exceptions es in
    let threes : length (each exception_bytes es) % 3 ≡ 0 = omega (arith, long) in
    let short : length (each exception_bytes es) < 65536 = omega (arith, long) in
    record { known = refl; fits = λ h. eq-eqb (length (each exception_bytes es) % 3) 0 threes; short = short }

fits_second : (s : List ℕ) → Fits reference_form (tagged 5 (take 65535 s))
unfolding reference_form
fits_second s = record { known = refl; fits = one_or_more (take 65535 s); short = take_short 65535 s }

fits_third : (s : List ℕ) → length s ≤ 2 → Fits reference_form (tagged 6 s)
unfolding reference_form
fits_third s h =
    let short : length s < 65536 = omega arith in
    record { known = refl; fits = one_or_more s; short = short }

fits_wide : (b : Bool) (cs ce : ℕ) → Fits reference_form (tagged 7 (wide b cs ce))
unfolding reference_form
fits_wide b cs ce = record { known = refl; fits = wide_fits b cs ce; short = wide_short b cs ce }

fits_end_lem : (end : ℕ) → (eqb end at_stop ≡ false → is_short_end end ≡ true) → Fits reference_form (tagged 8 (end_in end))
unfolding reference_form
fits_end_lem end k = record { known = refl; fits = end_fits end k; short = end_short end }

-- a reference that isn't refused
module _ (longest : ℕ) (limit : longest ≤ 131072) (r : Reference) (clear : reference_refusal longest r ≡ 0) where
  a : Accepted longest r
  a = accepted longest r clear

  short-end : eqb r.end at_stop ≡ false → is_short_end r.end ≡ true
  unfolding is_cut_short
  short-end e = and_left (is_short_end r.end) (eqb r.ce (size r)) (and_left (is_short_end r.end && eqb r.ce (size r)) _ (a.cut e))

  few-left : length r.letters ≤ 131072
  unfolding size
  few-left = omega (arith, a.fits)

  all_fit : AllFit reference_form (held_by r)
  unfolding held_by
  all_fit =
      fit-one (fits_letters r.letters)
      (fit-one (fits_narrow (is_long r) r.cs r.ce)
      (fit-one (fits_table r.table)
      (fit-one (fits_exceptions r.exceptions a.few)
      (fit-one (fits_second (drop 65535 r.letters))
      (fit-one (fits_third (drop 131070 r.letters) (drop_short 131070 2 r.letters few-left))
      (fit-one (fits_wide (is_long r) r.cs r.ce)
      (fit-one (fits_end_lem r.end short-end) fit_none)))))))

  pub fields_back : fields reference_form (stored_form r) ≡ given (reference_fields r)
  unfolding stored_form reference_fields held_by
  fields_back = read-written reference_form (filled (held_by r)) (filled-rise reference_form 0 0 (held_by r) (omega arith) rises all_fit)
    where
      rises : rise 0 (held_by r) ≡ true
      rises = eight-rise _ _ _ _ _ _ _ _

  assembled-back : assembled (contents_of (reference_fields r)) ≡ given r
  unfolding reference_fields held_by is_long size
  assembled-back =
      let l = r.letters in
      ap assembled (contents-filled (take 65535 l) (narrow (is_long r) r.cs r.ce) (r.table ∷ []) (each exception_bytes r.exceptions) (take 65535 (drop 65535 l)) (drop 131070 l) (wide (is_long r) r.cs r.ce) (end_in r.end))
      ∙ assembles r (take 65535 l) (each exception_bytes r.exceptions) (take 65535 (drop 65535 l)) (drop 131070 l) (letters_back 65535 l) (some_taken_of 65534 l a.some) (exceptions_back r.exceptions)
      (λ h. full_before 65535 l (some_taken 65535 (drop 65535 l) h)) (λ h. full_before 65535 (drop 65535 l) (rw (drop-drop 65535 65535 l) h)) (is_long r) refl

  -- read back, the written form is the same reference
  pub read_back : stored_reference longest (stored_form r) ≡ given r
  unfolding stored_reference checked assembled_in unless
  read_back = ap (λ (x : Result (List Tagged)). checked longest (assembled_in x)) fields_back ∙ ap (checked longest) assembled-back ∙ rw clear
