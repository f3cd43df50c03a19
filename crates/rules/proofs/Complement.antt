-- Laws of the complement: what is so of each of the fifteen letters is computed over the list of them.
-- Assumes nothing.
use mathlib.Core.Path.{◌≡◌, refl, ap, ◌∙◌}
use mathlib.Core.Bool.{Bool, true, false}
use mathlib.Core.List.{List, [], ◌∷◌, ◌++◌, map, map-append, reverse-append}
use Prim.Native.Nat.{ℕ, suc, ◌+◌, ◌*◌, ◌/◌, ◌%◌, ◌<◌}
use lib.Dec.{eqb, ltb}
use lib.ListN.{length, take, get_or, length-reverse, length-map}
use lib.Seq.{take-suc}
use borrow.Author.Tests.{eqb-true}
use Rattle.rules.specs.Bytes.{all}
use Rattle.rules.specs.Letters.{pick, value_of, letters, letter_set, is_letter}
use Rattle.rules.specs.Complement.{partner_in, complement, reverse_complement}
use Rattle.rules.proofs.Tests.{and_left, and_right, all-reverse, all_map}

-- each first byte of a list of pairs passes
abbrev pub all_keys : (ℕ → Bool) → List (ℕ × ℕ) → Bool
all_keys p ps = all (λ (k : ℕ × ℕ). p k.0) ps

-- then so does a byte that has a value there
of_keys : (p : ℕ → Bool) (ps : List (ℕ × ℕ)) (b : ℕ) → all_keys p ps ≡ true → ltb 0 (value_of b ps) ≡ true → p b ≡ true
unfolding all
of_keys p [] b h v = cc
of_keys p (k ∷ ps) b h v =
    at (eqb b k.0) refl v (of_keys p ps b (and_right (p k.0) (all_keys p ps) h))
  where
    at : (t : Bool) → eqb b k.0 ≡ t → ltb 0 (pick t k.1 (value_of b ps)) ≡ true → (ltb 0 (value_of b ps) ≡ true → p b ≡ true) → p b ≡ true
    at true q v r = ap p (eqb-true b k.0 q) ∙ and_left (p k.0) (all_keys p ps) h
    at false q v r = r v

pub of-letters : (p : ℕ → Bool) (b : ℕ) → all_keys p letters ≡ true → is_letter b ≡ true → p b ≡ true
unfolding is_letter letter_set
of-letters p b = of_keys p letters b

-- a set with A and T, and C and G, exchanged
unfoldable pub exchanged : ℕ → ℕ
exchanged s = 8 * (s % 2) + 4 * (s / 2 % 2) + 2 * (s / 4 % 2) + s / 8 % 2

letter-complement : (b : ℕ) → is_letter b ≡ true → is_letter (complement b) ≡ true
unfolding all is_letter letter_set complement partner_in
letter-complement b h = of-letters (λ x. is_letter (complement x)) b refl h

pub set-complement : (b : ℕ) → is_letter b ≡ true → letter_set (complement b) ≡ exchanged (letter_set b)
unfolding all letter_set complement partner_in exchanged
set-complement b h =
    eqb-true (letter_set (complement b)) (exchanged (letter_set b))
    (of-letters (λ x. eqb (letter_set (complement x)) (exchanged (letter_set x))) b refl h)

pub length-complement : (s : List ℕ) → length (reverse_complement s) ≡ length s
unfolding reverse_complement
length-complement s = length-reverse (map complement s) ∙ length-map s complement

pub letters-complement : (s : List ℕ) → all is_letter s ≡ true → all is_letter (reverse_complement s) ≡ true
unfolding reverse_complement
letters-complement s h = all-reverse is_letter (map complement s) (all_map is_letter complement letter-complement s h)

-- the last of so many letters comes first
pub complement-last : (s : List ℕ) (m : ℕ) → m < length s → reverse_complement (take (suc m) s) ≡ complement (get_or s m 0) ∷ reverse_complement (take m s)
unfolding reverse_complement
complement-last s m h = rw (take-suc s m 0 h, map-append, reverse-append)

pub complement-append : (a b : List ℕ) → reverse_complement (a ++ b) ≡ reverse_complement b ++ reverse_complement a
unfolding reverse_complement
complement-append a b = rw (map-append, reverse-append)
