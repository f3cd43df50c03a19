-- Laws of letters and their sets, for any number. Assumes nothing.
use Rattle.std.specs.Prelude.{if◌then◌else◌}
use mathlib.Core.List.{List, [], ◌∷◌}
use mathlib.Core.Bool.{Bool, true, false, ◌&&◌}
use mathlib.Core.Path.{◌≡◌, refl}
use Prim.Native.Nat.{ℕ, ◌-◌, ◌/◌, ◌%◌, ◌<◌, ◌≤◌}
use native.Mathlib.Omega.{arith}
use lib.Dec.{eqb, leb, ltb, lit<}
use borrow.Author.Tests.{ltb-true, leb-true, eqb-true}
use Rattle.rules.specs.Letters.{pick, value_of, bases, letters, letter_set, is_letter, upper, folded}
use Rattle.letters.specs.Sets.{folded_set, is_base, folds_to_base, base_set}
use Rattle.letters.specs.Sets.{letter_number, set_at}
use Rattle.letters.proofs.Listed.{listed, at_byte}

pub and_left : (a b : Bool) → a && b ≡ true → a ≡ true
and_left true b e = refl
and_left false b e = e

pub and_right : (a b : Bool) → a && b ≡ true → b ≡ true
and_right true b e = e
and_right false b e = cc

-- each byte of the pairs stands from `low` to below `high`, and each value is below n
abbrev within : ℕ → ℕ → ℕ → List (ℕ × ℕ) → Bool
within low high n [] = true
within low high n (p ∷ ps) = (leb low p.0 && ltb p.0 high) && (ltb p.1 n && within low high n ps)

key_case : (t : Bool) (low high b k v w : ℕ) → eqb b k ≡ t → low ≤ k → k < high → 0 < pick t v w → (0 < w → (low ≤ b) × (b < high)) → (low ≤ b) × (b < high)
key_case true low high b k v w is hl hh h rest = rw (eqb-true b k is) (hl, hh)
key_case false low high b k v w is hl hh h rest = rest h

key_within : (low high n b : ℕ) (ps : List (ℕ × ℕ)) → within low high n ps ≡ true → 0 < value_of b ps → (low ≤ b) × (b < high)
key_within low high n b [] e h = absurd (omega arith)
key_within low high n b (p ∷ ps) e h =
    let key = and_left (leb low p.0 && ltb p.0 high) _ e in
    let rest = and_right (leb low p.0 && ltb p.0 high) _ e in
    key_case (eqb b p.0) low high b p.0 p.1 (value_of b ps) refl
    (leb-true low p.0 (and_left (leb low p.0) _ key)) (ltb-true p.0 high (and_right (leb low p.0) _ key)) h
    (key_within low high n b ps (and_right (ltb p.1 n) _ rest))

-- a letter's set is not empty
pub letter_some : (b : ℕ) → is_letter b ≡ true → 0 < letter_set b
unfolding is_letter
letter_some b e = ltb-true 0 (letter_set b) e

pub plain_some : (b : ℕ) → is_letter (folded b) ≡ true → 0 < folded_set b
unfolding folded_set
plain_some b e = letter_some (folded b) e

-- a letter is a byte from 64 to 95
pub letter-within : (b : ℕ) → is_letter b ≡ true → (64 ≤ b) × (b < 96)
unfolding letter_set
letter-within b e = key_within 64 96 16 b letters refl (letter_some b e)

-- what is taken for a byte below 96 is a byte
upper_case : (t : Bool) (b : ℕ) → (if t then b - 32 else b) < 96 → b < 256
upper_case true b h = omega arith
upper_case false b h = omega arith

upper-byte : (b : ℕ) → upper b < 96 → b < 256
unfolding upper
upper-byte b h = upper_case (leb 97 b && leb b 122) b h

plain_case : (t : Bool) (u : ℕ) → eqb u 85 ≡ t → (if t then 84 else u) < 96 → u < 96
plain_case true u e h = rw (eqb-true u 85 e) (lit< tt)
plain_case false u e h = h

plain_byte : (b : ℕ) → folded b < 96 → b < 256
unfolding folded
plain_byte b h = upper-byte b (plain_case (eqb (upper b) 85) (upper b) refl h)

-- plain translation takes a letter for itself
pub letter_plain : (b : ℕ) → is_letter b ≡ true → folded b ≡ b
unfolding letter_set is_letter upper folded
letter_plain b e =
    let h = letter-within b e in
    rw e at (at_byte 0 (λ (k : ℕ). if is_letter k then folded k else 0) (λ (k : ℕ). if is_letter k then k else 0) refl b (omega arith))

-- two rules that antt computes alike for all letters of plain translation
pub at_letter : {A : Type 0} (d : A) (f g : ℕ → A)
    → listed (λ (k : ℕ). if is_letter (folded k) then f k else d) 0 256 ≡ listed (λ (k : ℕ). if is_letter (folded k) then g k else d) 0 256
    → (b : ℕ) → is_letter (folded b) ≡ true → f b ≡ g b
at_letter d f g same b e =
    rw e at (at_byte d (λ (k : ℕ). if is_letter (folded k) then f k else d) (λ (k : ℕ). if is_letter (folded k) then g k else d) same b (plain_byte b (letter-within (folded b) e).1))

-- the set of a letter is what its number stands for
pub letter-number : (b : ℕ) → is_letter (folded b) ≡ true → set_at (letter_number b) ≡ folded_set b
unfolding letter_set is_letter upper folded folded_set
letter-number b e = at_letter 0 (λ (k : ℕ). set_at (letter_number k)) folded_set refl b e

base_within : (b : ℕ) → is_base b ≡ true → b < 96
base_within b e = (key_within 64 96 16 b bases refl (ltb-true 0 (value_of b bases) e)).1

-- a base is a letter, and folds to a base
pub base_is-letter : (b : ℕ) → is_base b ≡ true → is_letter b ≡ true
unfolding letter_set is_letter
base_is-letter b e =
    rw e at (at_byte false (λ (k : ℕ). if is_base k then is_letter k else true) (λ (k : ℕ). true) refl b (omega (arith, base_within b e)))

pub base_folds : (b : ℕ) → is_base b ≡ true → folds_to_base b ≡ true
unfolding upper folded folds_to_base
base_folds b e =
    rw e at (at_byte false (λ (k : ℕ). if is_base k then folds_to_base k else true) (λ (k : ℕ). true) refl b (omega (arith, base_within b e)))

-- what plain translation takes for a base is a letter, with the set of its letter's number
base_byte : (b : ℕ) → folds_to_base b ≡ true → b < 256
unfolding folds_to_base
base_byte b e = plain_byte b (base_within (folded b) e)

pub base_set_lem : (b : ℕ) → folds_to_base b ≡ true → folded_set b ≡ base_set (b / 2 % 4)
unfolding letter_set upper folded folded_set folds_to_base
base_set_lem b e =
    rw e at (at_byte 0 (λ (k : ℕ). if folds_to_base k then folded_set k else 0) (λ (k : ℕ). if folds_to_base k then base_set (k / 2 % 4) else 0) refl b (base_byte b e))

pub base_letter : (b : ℕ) → folds_to_base b ≡ true → is_letter (folded b) ≡ true
unfolding folds_to_base
base_letter b e = base_is-letter (folded b) e
