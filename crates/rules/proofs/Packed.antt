-- What packed bytes hold, that what is refused of them is what is refused of the letters that they hold, and inputs that decide E10's clauses. Assumes nothing.
use mathlib.Core.Path.{◌≡◌, refl, sym, ap, ◌∙◌}
use mathlib.Core.Bool.{Bool, true, false, ◌&&◌, not}
use mathlib.Core.List.{List, [], ◌∷◌, map}
use Prim.Native.Nat.{ℕ, zero, suc, ◌*◌, ◌≤◌, ◌<◌}
use native.Mathlib.Omega.{arith}
use lib.Dec.{eqb, leb}
use lib.ListN.{length, take, replicate, length-map, length-replicate}
use lib.Seq.{length-take-le}
use borrow.Author.Tests.{eqb-true, leb-true}
use Rattle.rules.specs.declared.Cds.{Cds}
use Rattle.rules.specs.declared.Exceptions.{Exceptions}
use Rattle.rules.specs.declared.Form.{Form}
use Rattle.rules.specs.declared.Form.TheVariants.{Packed}
use Rattle.rules.specs.Bytes.{bytes, all, ◌↯◌, first_number, unless}
use Rattle.rules.specs.Letters.{letter_set, is_letter}
use Rattle.rules.specs.Reference.{Reference, size, is_size, reference_tests, at_stop}
use Rattle.rules.specs.Packed.{halves, set_at, letter_of, letters_in, half_up, unpacked, packed_tests, letters_by, form_at}
use Rattle.rules.specs.Views.{reference_of}
use Rattle.rules.specs.Opened.{opened}
use Rattle.rules.proofs.Tests.{and_left}
use Rattle.rules.proofs.Doubtful.{Decided, ◌⇒◌, edited, shown}

pub length-halves : (bs : List ℕ) → length (halves bs) ≡ length bs * 2
unfolding halves
length-halves [] = refl
length-halves (b ∷ bs) = omega (arith, length-halves bs)

pub length-letters : (bs : List ℕ) → length (letters_in bs) ≡ length bs * 2
unfolding letters_in
length-letters bs = length-map (halves bs) letter_of ∙ length-halves bs

-- bytes that are no letters
none_letters : (n : ℕ) → 0 < n → all is_letter (replicate n 0) ≡ false
unfolding all is_letter letter_set
none_letters zero h = absurd (omega arith)
none_letters (suc n) h = refl

module _ (n : ℕ) (bs : List ℕ) where
  pub uncounted : eqb (length bs) (half_up n) ≡ false → unpacked n bs ≡ []
  unfolding unpacked
  uncounted h = rw h

  module _ (counted : eqb (length bs) (half_up n) ≡ true) where
    pub spare-used : eqb (set_at bs n) 0 ≡ false → unpacked n bs ≡ replicate n 0
    unfolding unpacked
    spare-used h = rw (counted, h)

    pub spare-zero : eqb (set_at bs n) 0 ≡ true → unpacked n bs ≡ take n (letters_in bs)
    unfolding unpacked
    spare-zero h = rw (counted, h)

    fits : n ≤ length (letters_in bs)
    fits = omega (arith, length-letters bs, eqb-true (length bs) (half_up n) counted)

    pub length-unpacked : length (unpacked n bs) ≡ n
    length-unpacked = by (eqb (set_at bs n) 0) refl
      where
        by : (t : Bool) → eqb (set_at bs n) 0 ≡ t → length (unpacked n bs) ≡ n
        by true h = ap length (spare-zero h) ∙ length-take-le n (letters_in bs) fits
        by false h = ap length (spare-used h) ∙ length-replicate n 0

  -- letters that aren't refused: the first n of all halves, which are as many bytes
  module _ (some : 0 < length (unpacked n bs)) (letters : all is_letter (unpacked n bs) ≡ true) where
    pub is-counted : eqb (length bs) (half_up n) ≡ true
    is-counted = by (eqb (length bs) (half_up n)) refl
      where
        by : (t : Bool) → eqb (length bs) (half_up n) ≡ t → t ≡ true
        by true h = refl
        by false h = absurd (omega (arith, ap length (uncounted h)))

    pub held : unpacked n bs ≡ take n (letters_in bs)
    held = by (eqb (set_at bs n) 0) refl
      where
        by : (t : Bool) → eqb (set_at bs n) 0 ≡ t → unpacked n bs ≡ take n (letters_in bs)
        by true h = spare-zero is-counted h
        by false h =
            let z : ◌≡◌ {A = Bool} false true = sym (none_letters n (omega (arith, length-unpacked is-counted))) ∙ ap (all is_letter) (sym (spare-used is-counted h)) ∙ letters in
            let y : ◌≡◌ {A = ℕ} 0 1 = cc in
            absurd (omega arith)

-- 1 and 2 of the letters that packed bytes hold are those of the bytes
module _ (longest n : ℕ) (bs : List ℕ) (c : Cds) (e : Exceptions) where
  first_two : (s : List ℕ) (sized lettered : Bool) → is_size longest (length s) ≡ sized → all is_letter s ≡ lettered
      → first_number (take 2 (reference_tests longest (reference_of s c e))) ≡ first_number (not sized ↯ 1 ∷ not lettered ↯ 2 ∷ [])
  unfolding reference_tests size first_number
  first_two s sized lettered h k = rw (h, k)

  of-bytes : (sized counted spare lettered : Bool) → is_size longest n ≡ sized → eqb (length bs) (half_up n) ≡ counted → eqb (set_at bs n) 0 ≡ spare → all is_letter (take n (letters_in bs)) ≡ lettered
      → first_number (packed_tests longest n bs) ≡ first_number (not (sized && counted) ↯ 1 ∷ not (spare && lettered) ↯ 2 ∷ [])
  unfolding packed_tests
  of-bytes sized counted spare lettered h k l m = rw (h, k, l, m)

  sized-some : is_size longest n ≡ true → 0 < n
  unfolding is_size
  sized-some h = leb-true 1 n (and_left (leb 1 n) (leb n longest) h)

  pub packed-refused : first_number (take 2 (reference_tests longest (reference_of (unpacked n bs) c e))) ≡ first_number (packed_tests longest n bs)
  unfolding first_number is_size
  packed-refused = by (is_size longest n) (eqb (length bs) (half_up n)) (eqb (set_at bs n) 0) (all is_letter (take n (letters_in bs))) refl refl refl refl
    where
      by : (sized counted spare lettered : Bool) → is_size longest n ≡ sized → eqb (length bs) (half_up n) ≡ counted → eqb (set_at bs n) 0 ≡ spare → all is_letter (take n (letters_in bs)) ≡ lettered
          → first_number (take 2 (reference_tests longest (reference_of (unpacked n bs) c e))) ≡ first_number (packed_tests longest n bs)
      by true false spare lettered h k l m = first_two (unpacked n bs) false _ (ap (λ s. is_size longest (length s)) (uncounted n bs k)) refl ∙ sym (of-bytes true false spare lettered h k l m)
      by false false spare lettered h k l m = first_two (unpacked n bs) false _ (ap (λ s. is_size longest (length s)) (uncounted n bs k)) refl ∙ sym (of-bytes false false spare lettered h k l m)
      by false true spare lettered h k l m = first_two (unpacked n bs) false _ (ap (is_size longest) (length-unpacked n bs k) ∙ h) refl ∙ sym (of-bytes false true spare lettered h k l m)
      by true true true lettered h k l m = first_two (unpacked n bs) true lettered (ap (is_size longest) (length-unpacked n bs k) ∙ h) (ap (all is_letter) (spare-zero n bs k l) ∙ m) ∙ sym (of-bytes true true true lettered h k l m)
      by true true false lettered h k l m = first_two (unpacked n bs) true false (ap (is_size longest) (length-unpacked n bs k) ∙ h) (ap (all is_letter) (spare-used n bs k l) ∙ none_letters n (sized-some h)) ∙ sym (of-bytes true true false lettered h k l m)

-- letters of a form, a CDS from cs to their last
abbrev coding : ℕ → Form → List ℕ → Reference
coding cs f bs = record { letters = letters_by f bs; cs = cs; ce = length (letters_by f bs); table = 0; exceptions = []; end = at_stop }

-- the letters, unless 1 or 2 refuses them
abbrev held_in : Form → List ℕ → List ℕ
held_in f bs = shown (unless (first_number (take 2 (reference_tests 16384 (coding 1 f bs)))) (letters_by f bs))

abbrev packed_in : List Decided
packed_in =
    -- the first letter is high, and L is a number of the call
    held_in (Packed 3) (0x18 ∷ 0x40 ∷ []) ⇒ "ATG"
    ∷ held_in (Packed 6) (0x18 ∷ 0x48 ∷ 0x11 ∷ []) ⇒ "ATGTAA"
    ∷ held_in (Packed 15) (0x12 ∷ 0x48 ∷ 0x5a ∷ 0x69 ∷ 0xc3 ∷ 0xed ∷ 0xb7 ∷ 0xf0 ∷ []) ⇒ "ACGTRYSWKMBDHVN"
    -- another number of bytes is 1, whatever they hold; so is L 0
    ∷ held_in (Packed 7) (0x18 ∷ 0x48 ∷ 0x11 ∷ []) ⇒ "refused 1"
    ∷ held_in (Packed 3) (0x18 ∷ 0x40 ∷ 0x00 ∷ []) ⇒ "refused 1"
    ∷ held_in (Packed 0) [] ⇒ "refused 1"
    -- the spare half, and an empty set within L
    ∷ held_in (Packed 3) (0x18 ∷ 0x41 ∷ []) ⇒ "refused 2"
    ∷ held_in (Packed 5) (0x18 ∷ 0x48 ∷ 0x11 ∷ []) ⇒ "refused 2"
    ∷ held_in (Packed 3) (0x08 ∷ 0x40 ∷ []) ⇒ "refused 2"
    ∷ held_in (Packed 6) (0x18 ∷ 0x40 ∷ 0x11 ∷ []) ⇒ "refused 2"
    -- forms by a host's numbers: 0 doesn't look at the size, any but 0 and 1 is 1
    ∷ held_in (form_at 0 9) (bytes "ATG") ⇒ "ATG"
    ∷ held_in (form_at 1 3) (0x18 ∷ 0x40 ∷ []) ⇒ "ATG"
    ∷ held_in (form_at 2 3) (0x18 ∷ 0x40 ∷ []) ⇒ "refused 1"
    ∷ held_in (form_at 257 3) (bytes "ATG") ⇒ "refused 1"
    -- then as unpacked: 3 and so on, and the edit's answer
    ∷ edited (coding 0 (Packed 6) (0x18 ∷ 0x48 ∷ 0x11 ∷ [])) "0del" ⇒ "refused 3"
    ∷ edited (coding 1 (Packed 6) (0x18 ∷ 0x48 ∷ 0x11 ∷ [])) "1A>G" ⇒ "start-lost 1 M V"
    ∷ []

pub all_packed : map (λ (d : Decided). d.computed) packed_in ≡ map (λ (d : Decided). bytes d.answer) packed_in
unfolding opened
all_packed = refl
