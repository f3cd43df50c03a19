-- The words that the sections share: quoted texts as bytes, tests, a choice by a test, a value or a refusal, and what a buffer holds.
use Rattle.std.specs.Prelude.{ℕ, zero, suc, List, [], ◌∷◌, ◌++◌, Bool, true, false, ◌&&◌, eqb, leb, length, drop, if◌then◌else◌}
use Prim.Native.String.{String}
use Prim.Native.Char.{Char, code}

abbrev pub byte : Char → ℕ
byte c = code c

abbrev pub bytes : String → List ℕ
bytes String.[] = []
bytes (String.◌∷◌ c s) = code c ∷ bytes s

-- the same bytes
unfoldable pub same : List ℕ → List ℕ → Bool
same [] [] = true
same [] (y ∷ ys) = false
same (x ∷ xs) [] = false
same (x ∷ xs) (y ∷ ys) = eqb x y && same xs ys

abbrev pub is_none : List ℕ → Bool
is_none [] = true
is_none (x ∷ xs) = false

-- how often x stands among the bytes
unfoldable pub count : ℕ → List ℕ → ℕ
count x [] = 0
count x (y ∷ ys) = if eqb x y then suc (count x ys) else count x ys

-- each element passes
unfoldable pub all : {A : Type 0} → (A → Bool) → List A → Bool
all p [] = true
all p (x ∷ xs) = p x && all p xs

-- what f gives for each element, in a row
unfoldable pub each : {A : Type 0} → (A → List ℕ) → List A → List ℕ
each f [] = []
each f (x ∷ xs) = f x ++ each f xs

-- a byte A to Z
unfoldable pub is_capital : ℕ → Bool
is_capital b = leb (byte "A") b && leb b (byte "Z")

-- a refusal's number, given if the test holds
pub record Test : Type 0 where
  pub holds : Bool
  pub number : ℕ

infix 80 ◌↯◌
abbrev pub ◌↯◌ : Bool → ℕ → Test
b ↯ n = record { holds = b; number = n }

-- the number of the first test that holds, in the order written, and 0 where none does
unfoldable pub first_number : List Test → ℕ
first_number [] = 0
first_number (t ∷ ts) = if t.holds then t.number else first_number ts

-- a value, or a refusal's number
pub data Result (A : Type 0) : Type 0 where
  given : A → Result A
  refused : ℕ → Result A

-- the value, unless a number refuses it
unfoldable pub unless : {A : Type 0} → ℕ → A → Result A
unless zero x = given x
unless (suc n) x = refused (suc n)

-- the buffer `old` once p is written from its start: the bytes behind p stay
unfoldable pub over : List ℕ → List ℕ → List ℕ
over p old = p ++ drop (length p) old
