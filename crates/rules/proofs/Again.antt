-- What was read from bytes, written again: the contents of the fields are those that the reference's own fields have.
-- Assumes nothing.
use Rattle.std.specs.Prelude.{if◌then◌else◌}
use mathlib.Core.Path.{◌≡◌, refl, sym, ap, ◌∙◌}
use mathlib.Core.Bool.{Bool, true, false, ◌&&◌, ◌||◌, not}
use mathlib.Core.List.{List, [], ◌∷◌, ◌++◌, append_assoc, append-nil}
use mathlib.Core.Option.{Option, none, some}
use mathlib.Core.Logic.{◌⊎◌, inl, inr, ⊎_elim}
use Prim.Native.Nat.{ℕ, zero, suc, ◌+◌, ◌*◌, ◌/◌, ◌%◌, ◌≤◌}
use native.Mathlib.Omega.{arith}
use lib.Dec.{eqb, leb, ltb}
use lib.ListN.{length, take, drop, get_or, drop_of_length-le}
use lib.Seq.{take_all, take-nil, drop-drop, take_at, drop_at}
use borrow.Author.Tests.{leb-true, eqb-true, not-false}
use Rattle.rules.specs.Bytes.{is_none, all, each, first_number, Result, given, refused, unless}
use Rattle.rules.specs.Reference.{Reference, at_stop, is_short_end, size}
use Rattle.rules.specs.Refusal.{reference_refusal}
use Rattle.rules.specs.Stored.{two_bytes, four_bytes, Tagged, fields, content_of, reference_form, exceptions_in, or_empty, is_there, Contents, contents_of, joined_letters, is_incomplete, is_full, is_begun_early, are_wrong_bounds, content_tests, bounds_in, reference_in, assembled, assembled_in, checked, stored_reference}
use Rattle.rules.specs.Storing.{in_two, in_four, fields_bytes, exception_bytes, is_long, held_by, filled, reference_fields, stored_form}
use Rattle.rules.proofs.Tests.{and_left, and_right, or_left, or_right, first_clear}
use Rattle.rules.proofs.Reference.{accepted}
use Rattle.rules.proofs.Fields.{is_byte, two_of, Read, written_read}
use Rattle.rules.proofs.Filled.{Found, found, bytes_of, up_to, by_tag, told}
use Rattle.rules.proofs.Storing.{some_taken_of, narrow, wide, end_in, eight}

-- bytes in a row, the first and the others
module _ (x : ℕ) (s : List ℕ) (b : all is_byte (x ∷ s) ≡ true) where
  first_byte : is_byte x ≡ true
  unfolding all
  first_byte = and_left (is_byte x) (all is_byte s) b

  other-bytes : all is_byte s ≡ true
  unfolding all
  other-bytes = and_right (is_byte x) (all is_byte s) b

-- numbers of two and of four bytes are written with the same bytes
two_again : (a b : ℕ) → is_byte a ≡ true → is_byte b ≡ true → in_two (two_bytes a b) ≡ a ∷ b ∷ []
unfolding in_two
two_again a b h k = let t = two_of a b h k in rw (t.0, t.1)

four_again : (a b c d : ℕ) → is_byte a ≡ true → is_byte b ≡ true → is_byte c ≡ true → is_byte d ≡ true → in_four (four_bytes a b c d) ≡ a ∷ b ∷ c ∷ d ∷ []
unfolding in_four four_bytes
four_again a b c d i j k l =
    let high : (65536 * two_bytes a b + two_bytes c d) / 65536 ≡ two_bytes a b = omega (arith, (two_of c d k l).2) in
    let low : (65536 * two_bytes a b + two_bytes c d) % 65536 ≡ two_bytes c d = omega (arith, (two_of c d k l).2) in
    rw (high, low, two_again a b i j, two_again c d k l)

narrow_again : (s : List ℕ) → length s ≡ 4 → all is_byte s ≡ true
    → in_two (two_bytes (get_or s 0 0) (get_or s 1 0)) ++ in_two (two_bytes (get_or s 2 0) (get_or s 3 0)) ≡ s
narrow_again [] h b = absurd (omega arith)
narrow_again (a₁ ∷ []) h b = absurd (omega arith)
narrow_again (a₁ ∷ a₂ ∷ []) h b = absurd (omega arith)
narrow_again (a₁ ∷ a₂ ∷ a₃ ∷ []) h b = absurd (omega arith)
narrow_again (a₁ ∷ a₂ ∷ a₃ ∷ a₄ ∷ []) h b₁ =
    let b₂ = other-bytes a₁ _ b₁ in
    let b₃ = other-bytes a₂ _ b₂ in
    let b₄ = other-bytes a₃ _ b₃ in
    rw (two_again a₁ a₂ (first_byte a₁ _ b₁) (first_byte a₂ _ b₂), two_again a₃ a₄ (first_byte a₃ _ b₃) (first_byte a₄ _ b₄))
narrow_again (a₁ ∷ a₂ ∷ a₃ ∷ a₄ ∷ x ∷ s) h b = absurd (omega arith)

wide_again : (s : List ℕ) → length s ≡ 8 → all is_byte s ≡ true
    → in_four (four_bytes (get_or s 0 0) (get_or s 1 0) (get_or s 2 0) (get_or s 3 0)) ++ in_four (four_bytes (get_or s 4 0) (get_or s 5 0) (get_or s 6 0) (get_or s 7 0)) ≡ s
wide_again [] h b = absurd (omega arith)
wide_again (a₁ ∷ []) h b = absurd (omega arith)
wide_again (a₁ ∷ a₂ ∷ []) h b = absurd (omega arith)
wide_again (a₁ ∷ a₂ ∷ a₃ ∷ []) h b = absurd (omega arith)
wide_again (a₁ ∷ a₂ ∷ a₃ ∷ a₄ ∷ []) h b = absurd (omega arith)
wide_again (a₁ ∷ a₂ ∷ a₃ ∷ a₄ ∷ a₅ ∷ []) h b = absurd (omega arith)
wide_again (a₁ ∷ a₂ ∷ a₃ ∷ a₄ ∷ a₅ ∷ a₆ ∷ []) h b = absurd (omega arith)
wide_again (a₁ ∷ a₂ ∷ a₃ ∷ a₄ ∷ a₅ ∷ a₆ ∷ a₇ ∷ []) h b = absurd (omega arith)
wide_again (a₁ ∷ a₂ ∷ a₃ ∷ a₄ ∷ a₅ ∷ a₆ ∷ a₇ ∷ a₈ ∷ []) h b₁ =
    let b₂ = other-bytes a₁ _ b₁ in
    let b₃ = other-bytes a₂ _ b₂ in
    let b₄ = other-bytes a₃ _ b₃ in
    let b₅ = other-bytes a₄ _ b₄ in
    let b₆ = other-bytes a₅ _ b₅ in
    let b₇ = other-bytes a₆ _ b₆ in
    let b₈ = other-bytes a₇ _ b₇ in
    rw (
      four_again a₁ a₂ a₃ a₄ (first_byte a₁ _ b₁) (first_byte a₂ _ b₂) (first_byte a₃ _ b₃) (first_byte a₄ _ b₄),
      four_again a₅ a₆ a₇ a₈ (first_byte a₅ _ b₅) (first_byte a₆ _ b₆) (first_byte a₇ _ b₇) (first_byte a₈ _ b₈),
    )
wide_again (a₁ ∷ a₂ ∷ a₃ ∷ a₄ ∷ a₅ ∷ a₆ ∷ a₇ ∷ a₈ ∷ x ∷ s) h b = absurd (omega arith)

exceptions_again : (s : List ℕ) → length s % 3 ≡ 0 → all is_byte s ≡ true → each exception_bytes (exceptions_in s) ≡ s
unfolding exceptions_in each exception_bytes
exceptions_again [] h b = refl
exceptions_again (x ∷ []) h b = absurd (omega arith)
exceptions_again (x ∷ y ∷ []) h b = absurd (omega arith)
exceptions_again (x ∷ y ∷ z ∷ s) h b =
    let b₂ = other-bytes x _ b in
    let b₃ = other-bytes y _ b₂ in
    rw (two_again x y (first_byte x _ b) (first_byte y _ b₂), exceptions_again s (omega arith) (other-bytes z _ b₃))

-- letters in fields that are full before others
record Split (n : ℕ) (c₁ c₅ c₆ : List ℕ) : Type 0 where
  first : take n (c₁ ++ c₅ ++ c₆) ≡ c₁
  second : take n (drop n (c₁ ++ c₅ ++ c₆)) ≡ c₅
  third : drop (n + n) (c₁ ++ c₅ ++ c₆) ≡ c₆

module _ (n : ℕ) (c₁ c₅ c₆ : List ℕ) (some-full : 1 ≤ n) (few₁ : length c₁ ≤ n) (few₅ : length c₅ ≤ n) (full₁ : is_none c₅ ≡ false → length c₁ ≡ n) (full₅ : is_none c₆ ≡ false → length c₅ ≡ n) where
  -- no more than one
  alone : c₅ ≡ [] → c₆ ≡ [] → Split n c₁ c₅ c₆
  alone e f =
      let whole : c₁ ++ c₅ ++ c₆ ≡ c₁ = rw (e, f) (simp append-nil) in
      let none_left : drop n c₁ ≡ [] = drop_of_length-le c₁ {i = n} few₁ in
      let none_at_all : drop (n + n) c₁ ≡ [] = drop_of_length-le c₁ {i = n + n} (omega arith) in
      record { first = rw whole (take_all n c₁ few₁); second = rw (whole, none_left, e) (take-nil n); third = rw (whole, none_at_all, f) }

  behind : length c₁ ≡ n → (take n (c₅ ++ c₆) ≡ c₅) × (drop n (c₅ ++ c₆) ≡ c₆) → Split n c₁ c₅ c₆
  behind e k =
      let whole : c₁ ++ c₅ ++ c₆ ≡ c₁ ++ (c₅ ++ c₆) = append_assoc c₁ c₅ c₆ in
      let rest : drop n (c₁ ++ (c₅ ++ c₆)) ≡ c₅ ++ c₆ = drop_at c₁ (c₅ ++ c₆) n e in
      record {
        first = rw whole (take_at c₁ (c₅ ++ c₆) n e);
        second = rw (whole, rest) k.0;
        third = rw (whole, ← drop-drop n n (c₁ ++ (c₅ ++ c₆)), rest) k.1;
      }

  split : Split n c₁ c₅ c₆
  split = by c₅ c₆ refl refl
    where
      none-long : is_none c₆ ≡ false → c₅ ≡ [] → ⊥
      none-long h e = let z : length c₅ ≡ 0 = ap length e in omega (arith, full₅ h)

      by : (d₅ d₆ : List ℕ) → c₅ ≡ d₅ → c₆ ≡ d₆ → Split n c₁ c₅ c₆
      by [] [] e f = alone e f
      by [] (x ∷ d₆) e f = absurd (none-long (ap is_none f) e)
      by (x ∷ d₅) [] e f =
          let ends : c₅ ++ c₆ ≡ c₅ = rw (f, append-nil) in
          let none_left : drop n c₅ ≡ [] = drop_of_length-le c₅ {i = n} few₅ in
          behind (full₁ (ap is_none e)) (rw ends (take_all n c₅ few₅), rw (ends, none_left, f))
      by (x ∷ d₅) (y ∷ d₆) e f = behind (full₁ (ap is_none e)) (take_at c₅ c₆ n (full₅ (ap is_none f)), drop_at c₅ c₆ n (full₅ (ap is_none f)))

-- a field that isn't begun early stands behind a full one
late : (o p : Option (List ℕ)) → is_begun_early o p ≡ false → is_none (or_empty p) ≡ false → length (or_empty o) ≡ 65535
unfolding is_begun_early is_full
late o none h k = let z : ◌≡◌ {A = ℕ} 0 1 = cc in absurd (omega arith)
late o (some s) h k = eqb-true (length (or_empty o)) 65535 (not-false (eqb (length (or_empty o)) 65535) h)

-- an end that tag 8 tells
end_again : (o : Option (List ℕ)) → ((c : List ℕ) → o ≡ some c → (eqb (length c) 1 && is_short_end (get_or c 0 0)) ≡ true) → end_in (get_or (or_empty o) 0 at_stop) ≡ or_empty o
unfolding is_short_end
end_again none h = refl
end_again (some []) h = let z : true ≡ false = sym (h [] refl) in let o : ◌≡◌ {A = ℕ} 0 1 = cc in absurd (omega arith)
end_again (some (x ∷ y ∷ c)) h = let z = eqb-true (length (x ∷ y ∷ c)) 1 (and_left (eqb (length (x ∷ y ∷ c)) 1) (is_short_end x) (h (x ∷ y ∷ c) refl)) in absurd (omega arith)
end_again (some (x ∷ [])) h = by (eqb x at_stop) refl
  where
    by : (b : Bool) → eqb x at_stop ≡ b → (if b then [] else (x ∷ [])) ≡ x ∷ []
    by true e = let z : is_short_end 0 ≡ true = rw (eqb-true x at_stop e) at (h (x ∷ []) refl) in let o : ◌≡◌ {A = ℕ} 0 1 = cc in absurd (omega arith)
    by false e = refl

-- a value that no number refuses
unless_given : {A : Type 0} (n : ℕ) (x y : A) → unless n x ≡ given y → (n ≡ 0) × (x ≡ y)
unfolding unless
unless_given zero x y h = (refl, cc)
unless_given (suc n) x y h = let z : ◌≡◌ {A = ℕ} 0 1 = cc in absurd (omega arith)

checked_given : (longest : ℕ) (x : Result Reference) (r : Reference) → checked longest x ≡ given r → (x ≡ given r) × (reference_refusal longest r ≡ 0)
unfolding checked
checked_given longest (refused n) r h = let z : ◌≡◌ {A = ℕ} 0 1 = cc in absurd (omega arith)
checked_given longest (given q) r h = let u = unless_given (reference_refusal longest q) q r h in (ap given u.1, rw (← u.1) u.0)

-- an empty content fits tags 1 and 4 alone
empty_fits : (t : ℕ) → reference_form.knows t ≡ true → reference_form.fits t [] ≡ true → (t ≡ 1) ⊎ (t ≡ 4)
unfolding reference_form
empty_fits zero k h = let z : ◌≡◌ {A = ℕ} 0 1 = cc in absurd (omega arith)
empty_fits (suc zero) k h = inl refl
empty_fits (suc (suc zero)) k h = let z : ◌≡◌ {A = ℕ} 0 1 = cc in absurd (omega arith)
empty_fits (suc (suc (suc zero))) k h = let z : ◌≡◌ {A = ℕ} 0 1 = cc in absurd (omega arith)
empty_fits (suc (suc (suc (suc zero)))) k h = inr refl
empty_fits (suc (suc (suc (suc (suc zero))))) k h = let z : ◌≡◌ {A = ℕ} 0 1 = cc in absurd (omega arith)
empty_fits (suc (suc (suc (suc (suc (suc zero)))))) k h = let z : ◌≡◌ {A = ℕ} 0 1 = cc in absurd (omega arith)
empty_fits (suc (suc (suc (suc (suc (suc (suc zero))))))) k h = let z : ◌≡◌ {A = ℕ} 0 1 = cc in absurd (omega arith)
empty_fits (suc (suc (suc (suc (suc (suc (suc (suc zero)))))))) k h = let z : ◌≡◌ {A = ℕ} 0 1 = cc in absurd (omega arith)
empty_fits (suc (suc (suc (suc (suc (suc (suc (suc (suc t))))))))) k h = absurd (above (and_right (leb 1 (suc (suc (suc (suc (suc (suc (suc (suc (suc t)))))))))) (leb (suc (suc (suc (suc (suc (suc (suc (suc (suc t))))))))) 8) k))
  where
    above : leb (suc (suc (suc (suc (suc (suc (suc (suc (suc t))))))))) 8 ≡ true → ⊥
    above e = omega (arith, leb-true (suc (suc (suc (suc (suc (suc (suc (suc (suc t))))))))) 8 e)

eight-same : {c₁ c₂ c₃ c₄ c₅ c₆ c₇ c₈ d₁ d₂ d₃ d₄ d₅ d₆ d₇ d₈ : List ℕ} → c₁ ≡ d₁ → c₂ ≡ d₂ → c₃ ≡ d₃ → c₄ ≡ d₄ → c₅ ≡ d₅ → c₆ ≡ d₆ → c₇ ≡ d₇ → c₈ ≡ d₈
    → eight c₁ c₂ c₃ c₄ c₅ c₆ c₇ c₈ ≡ eight d₁ d₂ d₃ d₄ d₅ d₆ d₇ d₈
eight-same h₁ h₂ h₃ h₄ h₅ h₆ h₇ h₈ = rw (h₁, h₂, h₃, h₄, h₅, h₆, h₇, h₈)

-- bytes whose fields hold a reference
module _ (longest : ℕ) (s : List ℕ) (b : all is_byte s ≡ true) (fs : List Tagged) (q : fields reference_form s ≡ given fs) (no-empty : content_of 4 fs ≡ some [] → ⊥) where
  read : Read reference_form 0 s fs
  read = written_read reference_form s fs b q

  abbrev c : Contents
  c = contents_of fs

  is-byte : (t : ℕ) (d : List ℕ) → content_of t fs ≡ some d → all is_byte d ≡ true
  is-byte = bytes_of fs (rw read.same b)

  is_found : (t : ℕ) (d : List ℕ) → content_of t fs ≡ some d → Found reference_form 0 t d
  is_found = found reference_form read.rising

  is-short : (t : ℕ) → length (by_tag fs t) ≤ 65535
  is-short t = by (content_of t fs) refl
    where
      by : (o : Option (List ℕ)) → content_of t fs ≡ o → length (or_empty o) ≤ 65535
      by none e = omega arith
      by (some d) e = omega (arith, (is_found t d e).short)

  module _ (tests : first_number (content_tests c) ≡ 0) (clear : reference_refusal longest (reference_in c) ≡ 0) where
    abbrev r : Reference
    r = reference_in c

    complete : is_incomplete c ≡ false
    unfolding content_tests
    complete = (first_clear (is_incomplete c) 21 _ tests).0

    wrong : (are_wrong_bounds c || is_begun_early c.letters c.second || is_begun_early c.second c.third) ≡ false
    unfolding content_tests
    wrong = (first_clear _ 24 _ (first_clear (is_incomplete c) 21 _ tests).1).0

    early : (are_wrong_bounds c || is_begun_early c.letters c.second) ≡ false
    early = or_left (are_wrong_bounds c || is_begun_early c.letters c.second) (is_begun_early c.second c.third) wrong

    parts : Split 65535 (by_tag fs 1) (by_tag fs 5) (by_tag fs 6)
    unfolding contents_of
    parts =
        split 65535 (by_tag fs 1) (by_tag fs 5) (by_tag fs 6) (omega arith) (is-short 1) (is-short 5)
        (late c.letters c.second (or_right (are_wrong_bounds c) (is_begun_early c.letters c.second) early))
        (late c.second c.third (or_right (are_wrong_bounds c || is_begun_early c.letters c.second) (is_begun_early c.second c.third) wrong))

    table_is : r.table ∷ [] ≡ by_tag fs 3
    unfolding reference_in contents_of is_incomplete reference_form
    table_is = by (content_of 3 fs) refl (or_right (not (is_there c.letters) || not (is_there c.bounds || is_there c.wide)) (not (is_there c.table)) complete)
      where
        one : (d : List ℕ) → length d ≡ 1 → get_or d 0 0 ∷ [] ≡ d
        one [] h = absurd (omega arith)
        one (x ∷ []) h = refl
        one (x ∷ y ∷ d) h = absurd (omega arith)

        by : (o : Option (List ℕ)) → content_of 3 fs ≡ o → not (is_there o) ≡ false → get_or (or_empty o) 0 0 ∷ [] ≡ or_empty o
        by none e h = let z : ◌≡◌ {A = ℕ} 0 1 = cc in absurd (omega arith)
        by (some d) e h = one d (eqb-true (length d) 1 (is_found 3 d e).fits)

    exceptions-are : each exception_bytes r.exceptions ≡ by_tag fs 4
    unfolding reference_in contents_of reference_form all
    exceptions-are = by (content_of 4 fs) refl
      where
        by : (o : Option (List ℕ)) → content_of 4 fs ≡ o → each exception_bytes (exceptions_in (or_empty o)) ≡ or_empty o
        by none e = exceptions_again [] refl refl
        by (some d) e = exceptions_again d (eqb-true (length d % 3) 0 (is_found 4 d e).fits) (is-byte 4 d e)

    end_is : end_in r.end ≡ by_tag fs 8
    unfolding reference_in contents_of reference_form
    end_is = end_again (content_of 8 fs) (λ d e. (is_found 8 d e).fits)

    some-bounds : (is_there c.bounds || is_there c.wide) ≡ true
    unfolding is_incomplete
    some-bounds =
        not-false (is_there c.bounds || is_there c.wide)
        (or_right (not (is_there c.letters)) (not (is_there c.bounds || is_there c.wide))
        (or_left (not (is_there c.letters) || not (is_there c.bounds || is_there c.wide)) (not (is_there c.table)) complete))

    right : are_wrong_bounds c ≡ false
    right = or_left (are_wrong_bounds c) (is_begun_early c.letters c.second) early

    bounds-are : (narrow (is_long r) r.cs r.ce ≡ by_tag fs 2) × (wide (is_long r) r.cs r.ce ≡ by_tag fs 7)
    unfolding reference_in contents_of is_long size are_wrong_bounds bounds_in reference_form
    bounds-are = by (ltb 16384 (length (joined_letters c))) (content_of 2 fs) (content_of 7 fs) refl refl right some-bounds
      where
        by : (k : Bool) (o p : Option (List ℕ)) → content_of 2 fs ≡ o → content_of 7 fs ≡ p → (if k then is_there o else is_there p) ≡ false → (is_there o || is_there p) ≡ true
            → (narrow k (bounds_in o (or_empty p)).cs (bounds_in o (or_empty p)).ce ≡ or_empty o) × (wide k (bounds_in o (or_empty p)).cs (bounds_in o (or_empty p)).ce ≡ or_empty p)
        by true (some d) p e f h k = let z : ◌≡◌ {A = ℕ} 0 1 = cc in absurd (omega arith)
        by true none none e f h k = let z : ◌≡◌ {A = ℕ} 0 1 = cc in absurd (omega arith)
        by true none (some d) e f h k = (refl, wide_again d (eqb-true (length d) 8 (is_found 7 d f).fits) (is-byte 7 d f))
        by false none none e f h k = let z : ◌≡◌ {A = ℕ} 0 1 = cc in absurd (omega arith)
        by false o (some d) e f h k = let z : ◌≡◌ {A = ℕ} 0 1 = cc in absurd (omega arith)
        by false (some d) none e f h k = (narrow_again d (eqb-true (length d) 4 (is_found 2 d e).fits) (is-byte 2 d e), refl)

    letters-are : (take 65535 r.letters ≡ by_tag fs 1) × (take 65535 (drop 65535 r.letters) ≡ by_tag fs 5) × (drop 131070 r.letters ≡ by_tag fs 6)
    unfolding reference_in joined_letters contents_of
    letters-are = (parts.first, parts.second, parts.third)

    some-letters : is_none (by_tag fs 1) ≡ false
    unfolding size
    some-letters = rw (← letters-are.0) (some_taken_of 65534 r.letters (accepted longest r clear).some)

    each-some : (t : ℕ) (d : List ℕ) → content_of t fs ≡ some d → (t ≤ 0 + 8) × (is_none d ≡ false)
    unfolding reference_form
    each-some t d e = (omega (arith, leb-true t 8 (and_right (leb 1 t) (leb t 8) (is_found t d e).known)), by d e)
      where
        by : (d : List ℕ) → content_of t fs ≡ some d → is_none d ≡ false
        by (x ∷ d) e = refl
        by [] e =
            ⊎_elim (λ i. ap is_none (sym (ap or_empty (sym (ap (λ (n : ℕ). content_of n fs) i) ∙ e))) ∙ some-letters) (λ i. absurd (no-empty (sym (ap (λ (n : ℕ). content_of n fs) i) ∙ e)))
            (empty_fits t (is_found t [] e).known (is_found t [] e).fits)

    held-are : held_by r ≡ up_to 0 8 (by_tag fs)
    unfolding held_by up_to
    held-are =
        eight-same letters-are.0 bounds-are.0 table_is exceptions-are letters-are.1 letters-are.2 bounds-are.1 end_is

    form-is : stored_form r ≡ s
    unfolding stored_form reference_fields
    form-is = ap fields_bytes (ap filled held-are ∙ told reference_form 8 0 fs read.rising each-some) ∙ read.same

-- a stored reference without an empty tag 4 field, read and written, gives the same bytes
pub written_back : (longest : ℕ) (s : List ℕ) → all is_byte s ≡ true → (fs : List Tagged) → fields reference_form s ≡ given fs → (content_of 4 fs ≡ some [] → ⊥) → (r : Reference)
    → stored_reference longest s ≡ given r → stored_form r ≡ s
unfolding stored_reference assembled_in assembled
written_back longest s b fs q no-empty r h =
    let found = checked_given longest (assembled_in (fields reference_form s)) r h in
    let held = unless_given (first_number (content_tests (contents_of fs))) (reference_in (contents_of fs)) r (sym (ap assembled_in q) ∙ found.0) in
    rw (← held.1) (form-is longest s b fs q no-empty held.0 (rw held.1 found.1))
