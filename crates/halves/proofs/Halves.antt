-- Laws of packed letters: the sets at places, and the letters of sets. Assumes nothing.
use Rattle.std.proofs.Common.{◌≡◌, ℕ, zero, suc, ◌+◌, ◌-◌, ◌*◌, ◌/◌, ◌%◌, ◌<◌, ◌≤◌, true, false, ltb, List, [], ◌∷◌, length, get_or, take, drop, refl, ap, ◌∙◌, arith, lit<, get_or-drop, get_or-take, ltb-true}
use lib.ListN.{get_or-map}
use Rattle.rules.specs.Letters.{letter_set, is_letter, upper, folded}
use Rattle.rules.specs.Altered.{part}
use Rattle.rules.proofs.Parts.{length_part}
use Rattle.rules.proofs.Packed.{length-letters}
use Rattle.letters.specs.Sets.{folded_set}
use Rattle.letters.proofs.Listed.{at_each}
use Rattle.rules.specs.Packed.{halves, set_at, letter_of, letters_in}

pub high_at : (bs : List ℕ) (j : ℕ) → set_at bs (j * 2) ≡ get_or bs j 0 / 16 % 16
unfolding halves set_at
high_at [] j = refl
high_at (b ∷ bs) zero = refl
high_at (b ∷ bs) (suc j) =
    let two : suc j * 2 ≡ suc (suc (j * 2)) = omega arith in
    rw two (high_at bs j)

pub low_at : (bs : List ℕ) (j : ℕ) → set_at bs (j * 2 + 1) ≡ get_or bs j 0 % 16
unfolding halves set_at
low_at [] j = refl
low_at (b ∷ bs) zero = refl
low_at (b ∷ bs) (suc j) =
    let two : suc j * 2 + 1 ≡ suc (suc (j * 2 + 1)) = omega arith in
    rw two (low_at bs j)

pub set_small : (bs : List ℕ) (k : ℕ) → set_at bs k < 16
unfolding halves set_at
set_small [] k = lit< tt
set_small (b ∷ bs) zero = omega arith
set_small (b ∷ bs) (suc zero) = omega arith
set_small (b ∷ bs) (suc (suc k)) = set_small bs k

pub set_of_lem : (s : ℕ) → s < 16 → letter_set (letter_of s) ≡ s
unfolding letter_set letter_of
set_of_lem s h = at_each 16 0 (λ (s : ℕ). letter_set (letter_of s)) (λ (s : ℕ). s) refl s h

pub folded-set_of : (s : ℕ) → s < 16 → folded_set (letter_of s) ≡ s
unfolding letter_set letter_of folded_set folded upper
folded-set_of s h = at_each 16 0 (λ (s : ℕ). folded_set (letter_of s)) (λ (s : ℕ). s) refl s h

pub letter_of_some : (s : ℕ) → s < 16 → is_letter (letter_of s) ≡ ltb 0 s
unfolding letter_set letter_of is_letter
letter_of_some s h = at_each 16 false (λ (s : ℕ). is_letter (letter_of s)) (λ (s : ℕ). ltb 0 s) refl s h

pub letter_small : (s : ℕ) → s < 16 → letter_of s < 256
unfolding letter_of
letter_small s h = ltb-true (letter_of s) 256 (at_each 16 false (λ (s : ℕ). ltb (letter_of s) 256) (λ (s : ℕ). true) refl s h)

pub letter_in : (bs : List ℕ) (k : ℕ) → get_or (letters_in bs) k 0 ≡ letter_of (set_at bs k)
unfolding letters_in set_at letter_of
letter_in bs k = get_or-map letter_of (halves bs) k 0

-- THE LAW: the letter at a place of what packed bytes hold has the set at that place
pub letter_at_lem : (n : ℕ) (bs : List ℕ) (k : ℕ) → k < n → letter_set (get_or (take n (letters_in bs)) k 0) ≡ set_at bs k
letter_at_lem n bs k h =
    ap letter_set (get_or-take n (letters_in bs) k 0 h ∙ letter_in bs k) ∙ set_of_lem (set_at bs k) (set_small bs k)

-- and of a part
pub part_at : (from to : ℕ) (bs : List ℕ) (k : ℕ) → k < to - from → get_or (part from to (letters_in bs)) k 0 ≡ letter_of (set_at bs (from + k))
unfolding part
part_at from to bs k h =
    get_or-take (to - from) (drop from (letters_in bs)) k 0 h ∙ get_or-drop from (letters_in bs) k 0 ∙ letter_in bs (from + k)

pub length_of_part : (from to : ℕ) (bs : List ℕ) → to ≤ length bs * 2 → length (part from to (letters_in bs)) ≡ to - from
length_of_part from to bs h = length_part from to (letters_in bs) (rw length-letters h)
