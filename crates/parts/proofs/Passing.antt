-- Laws of codons that lie within one part, and of residues of R that are passed.
-- Assumes nothing.
use Rattle.std.specs.Prelude.{if◌then◌else◌}
use mathlib.Core.Path.{◌≡◌, refl, sym, ap, ◌∙◌}
use mathlib.Core.Bool.{Bool, true, false, ◌&&◌}
use mathlib.Core.List.{List, [], ◌∷◌, ◌++◌}
use Prim.Native.Nat.{ℕ, zero, suc, ◌+◌, ◌-◌, ◌*◌, ◌≤◌, ◌<◌}
use native.Mathlib.Decide.{dec_lt}
use native.Mathlib.Omega.{arith}
use lib.Dec.{leb, ltb}
use lib.ListN.{length, take, drop, get_or, length-append, get_or-append}
use lib.Seq.{get_or-drop, drop-append-le, drop-append-add}
use borrow.Author.Tests.{ltb-true}
use Rattle.rules.specs.declared.Cds.{Cds}
use Rattle.rules.specs.declared.Exception.{Exception}
use Rattle.rules.specs.declared.Exceptions.{Exceptions}
use Rattle.rules.specs.Bytes.{byte, all, count}
use Rattle.rules.specs.Letters.{letter_set, is_letter}
use Rattle.rules.specs.Codons.{codon_rule, codon}
use Rattle.rules.specs.Translation.{exception_list, excepted}
use Rattle.rules.specs.Reference.{cds_size, size, codons, reference_protein}
use Rattle.rules.specs.Views.{reference_of}
use Rattle.rules.proofs.Lists.{all_at}
use Rattle.rules.proofs.Tests.{and_left, and_right}
use Rattle.letters.specs.Sets.{folded_set}
use Rattle.letters.proofs.Sets.{letter_plain, letter_some}
use Rattle.excepted.specs.Exceptions.{nearer, next_from, Clear}
use Rattle.excepted.proofs.Putting.{next_clear}
use Rattle.places.specs.Places.{codon_at}
use Rattle.reference.specs.Known.{Readable}
use Rattle.parts.specs.Parts.{in_parts, Stopless, Passes}
use Rattle.parts.proofs.Places.{letters-in, residue-is}
use Rattle.parts.proofs.Judged.{turned}

-- the sets of letters
module _ (s : List ℕ) (letters : all is_letter s ≡ true) where
  same_set : (k : ℕ) → k < length s → folded_set (get_or s k 0) ≡ letter_set (get_or s k 0)
  unfolding folded_set
  same_set k h = ap letter_set (letter_plain (get_or s k 0) (all_at is_letter s k letters h))

  pub set_there : (k r : ℕ) → k < length s → (r ≡ folded_set (get_or s k 0)) × (r < 16) → (0 < r) × (r < 16)
  set_there k r h is = (rw (is.0, same_set k h) (letter_some (get_or s k 0) (all_at is_letter s k letters h)), is.1)

  -- a codon from a place on
  pub codon-read : (t at i p q w r : ℕ) → at + i * 3 + 3 ≤ length s → p ≡ folded_set (get_or s (at + i * 3) 0) → q ≡ folded_set (get_or s (at + i * 3 + 1) 0) → w ≡ folded_set (get_or s (at + i * 3 + 2) 0)
      → r ≡ codon_rule t p q w → r ≡ codon_at t (drop at s) i
  unfolding codon_at codon
  codon-read t at i p q w r h is-p is-q is-w read =
      let one : at + (i * 3 + 1) ≡ at + i * 3 + 1 = omega arith in
      let two : at + (i * 3 + 2) ≡ at + i * 3 + 2 = omega arith in
      rw (
        read,
        is-p,
        is-q,
        is-w,
        same_set (at + i * 3) (omega (arith, h)),
        same_set (at + i * 3 + 1) (omega (arith, h)),
        same_set (at + i * 3 + 2) (omega (arith, h)),
        get_or-drop at s (i * 3) 0,
        get_or-drop at s (i * 3 + 1) 0,
        get_or-drop at s (i * 3 + 2) 0,
        one,
        two,
      )

module _ (t : ℕ) where
  -- no codon, and one more
  pub stopless-none : (s : List ℕ) → Stopless t s 0
  stopless-none s = record { within = omega arith; none = λ i h z. omega (arith, h) }

  pub stopless-more : (s : List ℕ) (r : ℕ) → Stopless t s r → r * 3 + 3 ≤ length s → (codon_at t s r ≡ byte "*" → ⊥) → Stopless t s (r + 1)
  stopless-more s r x h other = record { within = omega (arith, h); none = λ i l. by i l (dec_lt i r) }
    where
      by : (i : ℕ) → i < r + 1 → Dec (i < r) → codon_at t s i ≡ byte "*" → ⊥
      by i l (yes k) z = x.none i k z
      by i l (no k) z =
          let is : r ≡ i = omega (arith, l, k) in
          other (ap (codon_at t s) is ∙ z)

  -- the first codons of a longer list
  same-codon : (s u : List ℕ) (i : ℕ) → ((k : ℕ) → k < i * 3 + 3 → get_or s k 0 ≡ get_or u k 0) → codon_at t s i ≡ codon_at t u i
  unfolding codon_at
  same-codon s u i h = rw (h (i * 3) (omega arith), h (i * 3 + 1) (omega arith), h (i * 3 + 2) (omega arith))

  stopless-append : (s u : List ℕ) (r : ℕ) → Stopless t s r → Stopless t (s ++ u) r
  stopless-append s u r x =
      record {
        within = omega (arith, x.within, length-append s u);
        none = λ i h z. x.none i h (sym (same-codon (s ++ u) s i (λ k l. get_or-append s u 0 k (omega (arith, x.within, l, h)))) ∙ z);
      }

  -- place `at` is in the first, the second or the third part
  module _ (a b c : List ℕ) (at r : ℕ) where
    pub first-stopless : at < length a → Stopless t (drop at a) r → Stopless t (drop at (in_parts a b c)) r
    first-stopless h x = rw (drop-append-le at a (b ++ c) (omega (arith, h))) (stopless-append (drop at a) (b ++ c) r x)

    behind : length a ≤ at → drop at (in_parts a b c) ≡ drop (at - length a) (b ++ c)
    behind h =
        let is : length a + (at - length a) ≡ at = omega (arith, h) in
        ap (λ (n : ℕ). drop n (in_parts a b c)) (sym is) ∙ drop-append-add a (b ++ c) (at - length a)

    pub second-stopless : length a ≤ at → at - length a < length b → Stopless t (drop (at - length a) b) r → Stopless t (drop at (in_parts a b c)) r
    second-stopless h k x = rw (behind h, drop-append-le (at - length a) b c (omega (arith, k))) (stopless-append (drop (at - length a) b) c r x)

    pub third-stopless : length a ≤ at → length b ≤ at - length a → Stopless t (drop (at - length a - length b) c) r → Stopless t (drop at (in_parts a b c)) r
    third-stopless h k x =
        let is : length b + (at - length a - length b) ≡ at - length a = omega (arith, k) in
        rw (behind h, ← is, drop-append-add b c (at - length a - length b)) x

-- the letters of each part
module _ (a b c : List ℕ) (letters : all is_letter (in_parts a b c) ≡ true) where
  pub first-letters : all is_letter a ≡ true
  first-letters = and_left (all is_letter a) (all is_letter b && all is_letter c) (sym (letters-in a b c) ∙ letters)

  others : (all is_letter b && all is_letter c) ≡ true
  others = and_right (all is_letter a) (all is_letter b && all is_letter c) (sym (letters-in a b c) ∙ letters)

  pub second-letters : all is_letter b ≡ true
  second-letters = and_left (all is_letter b) (all is_letter c) others

  pub third-letters : all is_letter c ≡ true
  third-letters = and_right (all is_letter b) (all is_letter c) others

-- the next codon with an exception is at most what stands behind all
nearer_le : (x : Exception) (n next : ℕ) → nearer x n next ≤ next
unfolding nearer
nearer_le x n next = by (leb n x.codon) (ltb x.codon next) refl
  where
    by : (a b : Bool) → ltb x.codon next ≡ b → (if a && b then x.codon else next) ≤ next
    by true true e = omega (arith, ltb-true x.codon next e)
    by true false e = omega arith
    by false b e = omega arith

next_le : (es : List Exception) (n past : ℕ) → next_from es n past ≤ past
unfolding next_from
next_le [] n past = omega arith
next_le (x ∷ es) n past = omega (arith, next_le es n (nearer x n past), nearer_le x n past)

-- residues of R, where none of 1 to 5 applies
module _ (s : List ℕ) (c : Cds) (e : Exceptions) (x : Readable s c e) where
  pub codons-small : codons (reference_of s c e) < 4294967296
  unfolding codons cds_size size
  codons-small = omega (arith, x.sound.bounds.inside, x.sound.short)

  abbrev R : List ℕ
  R = reference_protein (reference_of s c e)

  -- from codon k on, before the next exception
  module _ (k whole next : ℕ) (h : k < codons (reference_of s c e)) (is : whole ≡ codons (reference_of s c e)) (told : next ≡ next_from (exception_list e) (k + 1) (whole + 1)) where
    clear : Clear (exception_list e) k next
    clear = next_clear (exception_list e) k (whole + 1) next (omega (arith, h, is)) told

    pub next-within : (k < next) × (next ≤ whole + 1)
    next-within = (clear.ahead, omega (arith, told, next_le (exception_list e) (k + 1) (whole + 1)))

    by-table : (i : ℕ) → k ≤ i → i < next - 1 → get_or R i 0 ≡ codon_at c.table (drop (c.cs - 1 + k * 3) s) (i - k)
    unfolding codon_at codon
    by-table i l m =
        let at = c.cs - 1 + k * 3 in
        let none : at + (i - k) * 3 ≡ c.cs - 1 + i * 3 = omega (arith, l) in
        let one : at + ((i - k) * 3 + 1) ≡ c.cs - 1 + i * 3 + 1 = omega (arith, l) in
        let two : at + ((i - k) * 3 + 2) ≡ c.cs - 1 + i * 3 + 2 = omega (arith, l) in
        let residue = codon_rule c.table (letter_set (get_or s (c.cs - 1 + i * 3) 0)) (letter_set (get_or s (c.cs - 1 + i * 3 + 1) 0)) (letter_set (get_or s (c.cs - 1 + i * 3 + 2) 0)) in
        let read : excepted (exception_list e) (i + 1) residue ≡ get_or R i 0 =
        residue-is s c e x i residue (excepted (exception_list e) (i + 1) residue) (omega (arith, is, m, next-within)) _ _ _ refl refl refl refl refl in
        sym read ∙ clear.none (i + 1) residue (omega (arith, l)) (omega (arith, m))
        ∙ rw (get_or-drop at s ((i - k) * 3) 0, get_or-drop at s ((i - k) * 3 + 1) 0, get_or-drop at s ((i - k) * 3 + 2) 0, none, one, two)

    pub stopless-passes : (r : ℕ) → r ≤ next - 1 - k → Stopless c.table (drop (c.cs - 1 + k * 3) s) r → Passes (reference_of s c e) k (k + r)
    stopless-passes r few y =
        record {
          from = omega arith;
          within = omega (arith, few, next-within, is);
          none = λ i l m z. y.none (i - k) (omega (arith, l, m)) (sym (by-table i l (omega (arith, m, few))) ∙ z);
        }

  -- no `*` among the residues that are passed
  none_more : (k n : ℕ) → k + n ≤ codons (reference_of s c e) → ((i : ℕ) → k ≤ i → i < k + n → get_or R i 0 ≡ byte "*" → ⊥) → count (byte "*") (take k R) ≡ 0 → count (byte "*") (take (k + n) R) ≡ 0
  none_more k zero h other none =
      let is : k + 0 ≡ k = omega arith in
      rw is none
  none_more k (suc n) h other none =
      let is : k + suc n ≡ k + n + 1 = omega arith in
      let before = none_more k n (omega (arith, h)) (λ i l m. other i l (omega (arith, m))) none in
      rw is (turned s c e x (k + n) (omega (arith, h)) before (other (k + n) (omega arith) (omega arith)))

  pub passed_on : (k r : ℕ) → Passes (reference_of s c e) k r → count (byte "*") (take k R) ≡ 0 → count (byte "*") (take r R) ≡ 0
  passed_on k r y none =
      let to : k + (r - k) ≡ r = omega (arith, y.from) in
      rw to at (none_more k (r - k) (omega (arith, y.within, y.from)) (λ i l m. y.none i l (omega (arith, m, y.from))) none)
