-- Laws of `digits`, `value`, `is_number` and `number`.
-- Assumes nothing.
use Rattle.std.specs.Prelude.{if◌then◌else◌, cond}
use Rattle.std.specs.Char.{is_ascii_digit}
use Rattle.std.specs.List.{prefix_len}
use mathlib.Core.Path.{◌≡◌, refl, sym, ap, ◌∙◌}
use mathlib.Core.Bool.{Bool, true, false, ◌&&◌, ◌||◌, not}
use mathlib.Core.List.{List, [], ◌∷◌}
use mathlib.Core.Option.{none}
use Prim.Native.Nat.{ℕ, zero, suc, ◌+◌, ◌*◌, ◌-◌, ◌^◌, ◌≤◌, ◌<◌}
use native.Mathlib.Numerals.{add-one}
use native.Mathlib.Omega.{arith}
use native.Mathlib.Nat.{not-suc-le-zero, le_of_suc-le-suc, le_refl, mul-le-mul_left, mul-le-mul_right, mul_assoc, pow-suc}
use borrow.Author.Tests.{leb-true}
use lib.Dec.{eqb, leb}
use lib.ListN.{length, take, drop, get_or, length-drop, drop_of_length-le}
use lib.Seq.{drop-cons, drop-drop, length-take-le}
use Rattle.rules.specs.Bytes.{all}
use Rattle.rules.specs.Number.{is_digit, digits, value, value_from, is_number, number_of, number}
use Rattle.rules.proofs.Over.{tail-is}
use Rattle.rules.proofs.Tests.{and_left, and_right}
use Rattle.std.specs.Prelude.{Some}
use Rattle.text_numbers.specs.Views.{number_in}

-- the leading digits, as std counts what passes a test
pub digits-prefix : (s : List ℕ) → prefix_len is_ascii_digit s ≡ digits s
unfolding digits is_digit
digits-prefix [] = refl
digits-prefix (b ∷ s) = by (is_ascii_digit b) (digits-prefix s)
  where
    by : (t : Bool) → prefix_len is_ascii_digit s ≡ digits s → cond t (1 + prefix_len is_ascii_digit s) 0 ≡ (if t then suc (digits s) else 0)
    by true h = omega arith
    by false h = refl

-- what a loop meets at the place i: a digit more, the end
module _ (s : List ℕ) (i : ℕ) where
  pub value-more : (v : ℕ) → i < length s → value_from v (drop i s) ≡ value_from (10 * v + (get_or s i 0 - 48)) (drop (i + 1) s)
  unfolding value_from
  value-more v h = rw (add-one, drop-cons s i 0 h)

  pub value-end : (v : ℕ) → length s ≤ i → value_from v (drop i s) ≡ v
  unfolding value_from
  value-end v h = rw (drop_of_length-le s h)

-- the leading digits are digits, and within the string
digits-all_by : (b : ℕ) (s : List ℕ) (t : Bool) → is_digit b ≡ t → all is_digit (take (digits s) s) ≡ true → all is_digit (take (if t then suc (digits s) else 0) (b ∷ s)) ≡ true
unfolding all
digits-all_by b s true e h = rw e h
digits-all_by b s false e h = refl

pub digits-all : (s : List ℕ) → all is_digit (take (digits s) s) ≡ true
unfolding digits all
digits-all [] = refl
digits-all (b ∷ s) = digits-all_by b s (is_digit b) refl (digits-all s)

digits_le_by : (n : ℕ) (t : Bool) (k : ℕ) → k ≤ n → (if t then suc k else 0) ≤ suc n
digits_le_by n true k h = omega arith
digits_le_by n false k h = omega arith

pub digits_le : (s : List ℕ) → digits s ≤ length s
unfolding digits
digits_le [] = le_refl 0
digits_le (b ∷ s) = digits_le_by (length s) (is_digit b) (digits s) (digits_le s)

pub digit_low : (b : ℕ) → is_digit b ≡ true → 48 ≤ b
unfolding is_digit
digit_low b e = leb-true 48 b (and_left (leb 48 b) (leb b 57) e)

digit_high : (b : ℕ) → is_digit b ≡ true → b ≤ 57
unfolding is_digit
digit_high b e = leb-true b 57 (and_right (leb 48 b) (leb b 57) e)

-- a value only grows, and is below the power of ten that has a digit more
value_grows : (v : ℕ) (s : List ℕ) → v ≤ value_from v s
unfolding value_from
value_grows v [] = le_refl v
value_grows v (b ∷ s) = let h = value_grows (10 * v + (b - 48)) s in omega arith

ten_pos : (k : ℕ) → 1 ≤ 10 ^ k
ten_pos zero = le_refl 1
ten_pos (suc k) = let h = ten_pos k in rw pow-suc (omega arith)

value_below : (v : ℕ) (s : List ℕ) (k : ℕ) → length s ≤ k → all is_digit s ≡ true → value_from v s < (v + 1) * 10 ^ k
unfolding value_from all
value_below v [] k h e = omega (arith, mul-le-mul_left (v + 1) (ten_pos k))
value_below v (b ∷ s) zero h e = absurd (not-suc-le-zero h)
value_below v (b ∷ s) (suc k) h e =
    let low = digit_low b (and_left (is_digit b) (all is_digit s) e) in
    let high = digit_high b (and_left (is_digit b) (all is_digit s) e) in
    let next = value_below (10 * v + (b - 48)) s k (le_of_suc-le-suc h) (and_right (is_digit b) (all is_digit s) e) in
    let step = mul-le-mul_right {m = 10 * v + (b - 48) + 1} {n = 10 * (v + 1)} (10 ^ k) (omega arith) in
    rw pow-suc (omega (arith, mul_assoc 10 (v + 1) (10 ^ k), mul_assoc (v + 1) (10 ^ k) 10))

-- so what is read of five digits, and with the next one, fits
module _ (s : List ℕ) (i v : ℕ) (h : length s ≤ 5) (e : all is_digit s ≡ true) where
  pub value-fits : value s ≡ value_from v (drop i s) → v < 100000
  unfolding value
  value-fits q = omega (arith, value_grows v (drop i s), value_below 0 s 5 h e)

pub next_fits : (s : List ℕ) (i v : ℕ) → length s ≤ 5 → all is_digit s ≡ true → i < length s → value s ≡ value_from v (drop i s) → 10 * v + (get_or s i 0 - 48) < 100000
next_fits s i v h e l q = value-fits s (i + 1) (10 * v + (get_or s i 0 - 48)) h e (q ∙ value-more s i v l)

-- a number has at most five digits
pub number_short : (n : ℕ) (s : List ℕ) → is_number n s ≡ true → n ≤ 5
unfolding is_number
number_short n s e = leb-true n 5 (and_right (leb 1 n) (leb n 5) (and_left (leb 1 n && leb n 5) (eqb n 1 || not (eqb (get_or s 0 0) 48)) e))

-- where the digits of the part behind a place were counted, and tested
module _ (line : List ℕ) (at n : ℕ) (q : n ≡ digits (take (length line - at) (drop at line))) where
  abbrev part : List ℕ
  part = take (length line - at) (drop at line)

  counted : digits (drop at line) ≡ n
  counted = sym (q ∙ ap digits (tail-is at line))

  pub count-within : n ≤ length part
  count-within = rw q (digits_le part)

  module _ (t : Bool) (r : t ≡ is_number n part) where
    tested : is_number n (drop at line) ≡ t
    tested = sym (r ∙ ap (is_number n) (tail-is at line))

    pub not-number : t ≡ false → none ≡ number (drop at line)
    unfolding number number_of
    not-number e = rw (counted, tested, e)

    module _ (e : t ≡ true) where
      pub few : length (take n part) ≤ 5
      few = rw (length-take-le n part count-within) (number_short n part (sym r ∙ e))

      pub are-digits : all is_digit (take n part) ≡ true
      are-digits = rw q (digits-all part)

      pub next-within : at ≤ length line → at + n ≤ length line
      next-within h = omega (arith, digits_le (drop at line), counted, length-drop at line)

      pub is-number : (v : ℕ) → v ≡ value (take n part) → number_in line (Some (record { value = v; next = at + n })) ≡ number (drop at line)
      unfolding number number_of
      is-number v k = rw (counted, tested, e, k, tail-is at line) (rw drop-drop)
