-- Laws of `specs/Expansion.antt`, for the turns of the plain codon reader. Assumes nothing.
use mathlib.Core.List.{List, [], ◌∷◌, ◌++◌}
use mathlib.Core.Path.{◌≡◌, refl, sym, ◌∙◌}
use Prim.Native.Nat.{ℕ, zero, suc, ◌+◌, ◌-◌, ◌*◌, ◌/◌, ◌%◌, ◌<◌, ◌≤◌}
use native.Mathlib.Nat.{suc-sub-suc, le_of_suc-le-suc, not-suc-le-zero}
use native.Mathlib.Numerals.{add-one, sub-one}
use native.Mathlib.Omega.{arith}
use lib.ListN.{length, get_or}
use Rattle.rules.specs.Codons.{residue_x, genetic_code, bit_of, with_base, for_each}
use Rattle.mixes.specs.Mixes.{joined}
use Rattle.codon_reader.specs.Expansion.{codon_count, expanded, joined_all}

-- within a list it does not matter what stands past its end
any_default : (xs : List ℕ) (k d e : ℕ) → k < length xs → get_or xs k d ≡ get_or xs k e
any_default [] k d e h = absurd (not-suc-le-zero h)
any_default (x ∷ xs) zero d e h = refl
any_default (x ∷ xs) (suc k) d e h = any_default xs k d e (le_of_suc-le-suc h)

-- a code's entry, for whichever code
pub code_at : (t table place : ℕ) → table ≡ t → place < length (genetic_code t) → get_or (genetic_code t) place 0 ≡ get_or (genetic_code table) place residue_x
code_at t table place is h = rw is (any_default (genetic_code t) place 0 residue_x h)

-- the bases of a set from the number i on, n numbers
abbrev pub bases_from : ℕ → ℕ → ℕ → List ℕ
bases_from s i zero = []
bases_from s i (suc n) = with_base (s / bit_of i % 2) i (bases_from s (suc i) n)

joined-append : (found : ℕ) (xs ys : List ℕ) → joined_all found (xs ++ ys) ≡ joined_all (joined_all found xs) ys
unfolding joined_all
joined-append found [] ys = refl
joined-append found (x ∷ xs) ys = joined-append (joined found x) xs ys

one_less : (i : ℕ) → i < 4 → 4 - i ≡ suc (4 - suc i)
one_less i h = omega arith

-- a turn at a base that the set has, and at one that it has not: what is left gives the whole
pub turn_in : (s i found whole : ℕ) (f : ℕ → List ℕ) → i < 4 → s / bit_of i % 2 ≡ 1 → joined_all found (for_each (bases_from s i (4 - i)) f) ≡ whole
    → joined_all (joined_all found (f i)) (for_each (bases_from s (i + 1) (4 - (i + 1))) f) ≡ whole
turn_in s i found whole f h e is =
    rw add-one (sym (joined-append found (f i) (for_each (bases_from s (suc i) (4 - suc i)) f)) ∙ (rw (one_less i h, e) at is))

pub turn_out : (s i found whole : ℕ) (f : ℕ → List ℕ) → i < 4 → (s / bit_of i % 2 ≡ 1 → ⊥) → joined_all found (for_each (bases_from s i (4 - i)) f) ≡ whole
    → joined_all found (for_each (bases_from s (i + 1) (4 - (i + 1))) f) ≡ whole
turn_out s i found whole f h n is =
    let e : s / bit_of i % 2 ≡ 0 = omega (arith, n) in
    rw add-one (rw (one_less i h, e) at is)

-- no base has the bit 0
pub bit_some : (i : ℕ) → i < 4 → 0 < bit_of i
bit_some zero h = omega arith
bit_some (suc zero) h = omega arith
bit_some (suc (suc zero)) h = omega arith
bit_some (suc (suc (suc zero))) h = omega arith
bit_some (suc (suc (suc (suc i)))) h = omega arith

-- a place among the codons of the letters expanded, and the next letter's
pub place_small : (left place : ℕ) → left ≤ 3 → place < codon_count (3 - left) → place < 64
place_small zero place h p = p
place_small (suc zero) place h p = omega arith
place_small (suc (suc zero)) place h p = omega arith
place_small (suc (suc (suc zero))) place h p = omega arith
place_small (suc (suc (suc (suc n)))) place h p = omega arith

pub place-next : (left place base : ℕ) → left ≤ 3 → (left ≡ 0 → ⊥) → place < codon_count (3 - left) → base < 4
    → place * 4 + base < codon_count (3 - (left - 1))
place-next zero place base h n p hb = absurd (n refl)
place-next (suc zero) place base h n p hb = omega arith
place-next (suc (suc zero)) place base h n p hb = omega arith
place-next (suc (suc (suc zero))) place base h n p hb = omega arith
place-next (suc (suc (suc (suc m)))) place base h n p hb = omega arith

-- no letter is left
pub expanded_none : (left t place : ℕ) (sets : List ℕ) (found : ℕ) → left ≡ 0
    → joined_all found (expanded left t sets place) ≡ joined found (get_or (genetic_code t) place residue_x)
unfolding expanded joined_all
expanded_none left t place sets found e = rw e

-- a letter is expanded, and one less is left
pub expanded_one : (left t place : ℕ) (sets : List ℕ) → (left ≡ 0 → ⊥)
    → expanded left t sets place ≡ for_each (bases_from (get_or sets (3 - left) 0) 0 4) λ i. expanded (left - 1) t sets (place * 4 + i)
unfolding expanded
expanded_one zero t place sets n = absurd (n refl)
expanded_one (suc k) t place sets n = rw (suc-sub-suc 2 k, sub-one)
