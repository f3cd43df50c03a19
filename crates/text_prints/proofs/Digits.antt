-- The cases of a number's digits, as the code goes through them, and how many there are.
-- Assumes nothing.
use Rattle.std.specs.Prelude.{if◌then◌else◌}
use mathlib.Core.Path.{◌≡◌, refl}
use mathlib.Core.Bool.{Bool, true, false}
use mathlib.Core.List.{List, [], ◌∷◌, ◌++◌}
use Prim.Native.Nat.{ℕ, zero, suc, ◌+◌, ◌-◌, ◌/◌, ◌%◌, ◌≤◌, ◌<◌}
use native.Mathlib.Omega.{arith}
use lib.Dec.{ltb}
use lib.ListN.{length, length-append}
use borrow.Author.Tests.{lt-ltb, le-ltb}
use Rattle.rules.specs.Run.{decimal_of, decimal}

pub digits_none : (left n : ℕ) → left ≡ 0 → decimal_of left n ≡ []
unfolding decimal_of
digits_none left n e = rw e

pub digit_one : (left n : ℕ) → (left ≡ 0 → ⊥) → n < 10 → decimal_of left n ≡ (48 + n) ∷ []
unfolding decimal_of
digit_one zero n some h = absurd (some refl)
digit_one (suc left) n some h = rw (lt-ltb n 10 h)

pub digits_more : (left n : ℕ) → (left ≡ 0 → ⊥) → 10 ≤ n → decimal_of left n ≡ decimal_of (left - 1) (n / 10) ++ ((48 + n % 10) ∷ [])
unfolding decimal_of
digits_more zero n some h = absurd (some refl)
digits_more (suc left) n some h =
    let less : suc left - 1 ≡ left = omega arith in
    rw (le-ltb n 10 h, less)

-- with one digit more
pub longer : (s : List ℕ) (x : ℕ) → length (s ++ (x ∷ [])) ≡ length s + 1
longer s x = length-append s (x ∷ [])

few_by : (left n : ℕ) (t : Bool) (s : List ℕ) → length s ≤ left → length (if t then (48 + n) ∷ [] else s ++ ((48 + n % 10) ∷ [])) ≤ suc left
few_by left n true s h = omega arith
few_by left n false s h = omega (arith, longer s (48 + n % 10))

pub few_digits : (left n : ℕ) → length (decimal_of left n) ≤ left
unfolding decimal_of
few_digits zero n = omega arith
few_digits (suc left) n = few_by left n (ltb n 10) (decimal_of left (n / 10)) (few_digits left (n / 10))

-- no number printed has more than six
pub few_decimals : (n : ℕ) → length (decimal n) ≤ 6
unfolding decimal
few_decimals n = few_digits 6 n
