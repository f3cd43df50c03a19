-- "Text program": numbers are decimal, no leading zero (a lone 0 is in the form), at most five digits.
use Rattle.std.specs.Prelude.{ℕ, suc, ◌+◌, ◌-◌, ◌*◌, List, [], ◌∷◌, Bool, ◌&&◌, ◌||◌, not, eqb, leb, get_or, take, drop, if◌then◌else◌}
use Rattle.std.proofs.Math.Option.{Option, none, some}
use Rattle.rules.specs.Bytes.{byte}

unfoldable pub is_digit : ℕ → Bool
is_digit b = leb (byte "0") b && leb b (byte "9")

-- the number of leading digits
unfoldable pub digits : List ℕ → ℕ
digits [] = 0
digits (b ∷ s) = if is_digit b then suc (digits s) else 0

-- the value of a string of digits, behind the value v
unfoldable pub value_from : ℕ → List ℕ → ℕ
value_from v [] = v
value_from v (b ∷ s) = value_from (10 * v + (b - byte "0")) s

unfoldable pub value : List ℕ → ℕ
value s = value_from 0 s

-- one to five digits, and no 0 before others
unfoldable pub is_number : ℕ → List ℕ → Bool
is_number n s = leb 1 n && leb n 5 && (eqb n 1 || not (eqb (get_or s 0 0) (byte "0")))

-- a number and what stands behind it
pub record Numbered : Type 0 where
  pub number : ℕ
  pub rest : List ℕ

-- the n leading digits
unfoldable pub number_of : ℕ → List ℕ → Option Numbered
number_of n s = if is_number n s then some (record { number = value (take n s); rest = drop n s }) else none

unfoldable pub number : List ℕ → Option Numbered
number s = number_of (digits s) s
