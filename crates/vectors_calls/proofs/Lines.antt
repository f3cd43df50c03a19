-- Laws of a line's fields: what a loop meets at a place, and where the next field begins.
-- Assumes nothing.
use mathlib.Core.Path.{◌≡◌, refl, sym, ◌∙◌}
use mathlib.Core.Bool.{true, false}
use mathlib.Core.List.{List}
use Prim.Native.Nat.{ℕ, zero, suc, ◌+◌, ◌-◌, ◌*◌, ◌%◌, ◌≤◌, ◌<◌, min}
use native.Mathlib.Numerals.{add-one}
use native.Mathlib.Decide.{dec_le}
use native.Mathlib.Omega.{arith}
use lib.ListN.{length, drop, get_or, drop_of_length-le}
use lib.Seq.{drop-cons, drop-drop}
use lib.Dec.{leb}
use borrow.Author.Tests.{leb-true, eq-eqb, ne_eqb}
use Rattle.rules.proofs.Tests.{and_left, and_right}
use Rattle.rules.specs.Number.{is_digit}
use Rattle.vectors_calls.specs.Fields.{before, field_at, with_digit, number_from}
use Rattle.vectors_calls.specs.Printed.{check_from}

module _ (b : ℕ) (s : List ℕ) (i : ℕ) where
  pub before_more : i < length s → (get_or s i 0 ≡ b → ⊥) → before b (drop i s) ≡ suc (before b (drop (i + 1) s))
  unfolding before
  before_more h e = rw (add-one, drop-cons s i 0 h) (simp (ne_eqb (get_or s i 0) b e))

  pub before_here : i < length s → get_or s i 0 ≡ b → before b (drop i s) ≡ 0
  unfolding before
  before_here h e = rw (drop-cons s i 0 h) (simp (eq-eqb (get_or s i 0) b e))

  pub before-end : length s ≤ i → before b (drop i s) ≡ 0
  unfolding before
  before-end h = rw (drop_of_length-le s {i = i} h)

drop_least : (n : ℕ) (s : List ℕ) → drop (min n (length s)) s ≡ drop n s
drop_least n s = by (dec_le n (length s))
  where
    by : Dec (n ≤ length s) → drop (min n (length s)) s ≡ drop n s
    by (yes h) = let this : min n (length s) ≡ n = omega arith in rw this
    by (no h) =
        let all : min n (length s) ≡ length s = omega arith in
        rw all (drop_of_length-le s {i = length s} (omega arith) ∙ sym (drop_of_length-le s {i = n} (omega arith)))

-- behind the space, or at the end
pub field_next : (left at end n : ℕ) (s : List ℕ) → 0 < left → end ≡ at + before 32 (drop at s) → n ≡ min (end + 1) (length s) → field_at left (drop at s) ≡ field_at (left - 1) (drop n s)
unfolding field_at
field_next zero at end n s h e k = absurd (omega arith)
field_next (suc left) at end n s h e k =
    let one : suc left - 1 ≡ left = omega arith in
    let to : at + (before 32 (drop at s) + 1) ≡ end + 1 = omega arith in
    rw (one, k, drop_least (end + 1) s, drop-drop (before 32 (drop at s) + 1) at s, to)

pub field_first : (s : List ℕ) → field_at 0 s ≡ s
unfolding field_at
field_first s = refl

pub digit_low : (b : ℕ) → is_digit b ≡ true → 48 ≤ b
unfolding is_digit
digit_low b e = leb-true 48 b (and_left (leb 48 b) (leb b 57) e)

pub digit_high : (b : ℕ) → is_digit b ≡ true → b ≤ 57
unfolding is_digit
digit_high b e = leb-true b 57 (and_right (leb 48 b) (leb b 57) e)

module _ (n : ℕ) (s : List ℕ) (i : ℕ) where
  pub number_more : i < length s → is_digit (get_or s i 0) ≡ true → number_from n (drop i s) ≡ number_from (with_digit n (get_or s i 0 - 48)) (drop (i + 1) s)
  unfolding number_from
  number_more h e = rw (add-one, drop-cons s i 0 h) (simp e)

  pub number-stop : i < length s → is_digit (get_or s i 0) ≡ false → number_from n (drop i s) ≡ n
  unfolding number_from
  number-stop h e = rw (drop-cons s i 0 h) (simp e)

  pub number-end : length s ≤ i → number_from n (drop i s) ≡ n
  unfolding number_from
  number-end h = rw (drop_of_length-le s {i = i} h)

  pub check-more : i < length s → check_from n (drop i s) ≡ check_from ((n * 31 + get_or s i 0) % 1000003) (drop (i + 1) s)
  unfolding check_from
  check-more h = rw (add-one, drop-cons s i 0 h)

  pub check-end : length s ≤ i → check_from n (drop i s) ≡ n
  unfolding check_from
  check-end h = rw (drop_of_length-le s {i = i} h)
