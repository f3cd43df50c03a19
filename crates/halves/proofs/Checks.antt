-- Laws of a test of each letter that packed bytes hold, by whole bytes and the last: proved once, for whichever test. Assumes nothing.
use Rattle.std.proofs.Common.{◌≡◌, ℕ, zero, suc, ◌+◌, ◌*◌, ◌/◌, ◌%◌, ◌<◌, ◌≤◌, Bool, true, false, ◌&&◌, eqb, List, [], ◌∷◌, length, get_or, take, replicate, sym, refl, ap, ◌∙◌, arith, eq-eqb}
use mathlib.Core.Bool.{and-true, and-false, and_assoc}
use lib.ListN.{get_or-eq_default}
use Rattle.rules.specs.Bytes.{all}
use Rattle.rules.specs.Packed.{halves, set_at, letter_of, letters_in, half_up, unpacked}
use Rattle.rules.proofs.Packed.{spare-zero, spare-used}
use Rattle.halves.specs.Halves.{are_pair, is_last}
use Rattle.halves.proofs.Halves.{high_at, low_at}

module _ (p : ℕ → Bool) where
  -- the letters of whole bytes
  even-letters : (w : ℕ) (bs : List ℕ) → w ≤ length bs → all p (take (w * 2) (letters_in bs)) ≡ all (are_pair p) (take w bs)
  unfolding all letters_in halves are_pair
  even-letters zero bs h = refl
  even-letters (suc w) [] h = absurd (omega arith)
  even-letters (suc w) (b ∷ bs) h =
      let two : suc w * 2 ≡ suc (suc (w * 2)) = omega arith in
      rw (two, even-letters w bs (omega arith)) (sym (and_assoc (p (letter_of (b / 16 % 16))) (p (letter_of (b % 16))) (all (are_pair p) (take w bs))))

  -- and of a byte whose low half is spare
  odd-letters : (w : ℕ) (bs : List ℕ) → w < length bs → all p (take (w * 2 + 1) (letters_in bs)) ≡ all (are_pair p) (take w bs) && p (letter_of (get_or bs w 0 / 16 % 16))
  unfolding all letters_in halves are_pair
  odd-letters w [] h = absurd (omega arith)
  odd-letters zero (b ∷ bs) h = and-true (p (letter_of (b / 16 % 16)))
  odd-letters (suc w) (b ∷ bs) h =
      let two : suc w * 2 + 1 ≡ suc (suc (w * 2 + 1)) = omega arith in
      rw (two, odd-letters w bs (omega arith))
      (sym (and_assoc (p (letter_of (b / 16 % 16))) (p (letter_of (b % 16))) (all (are_pair p) (take w bs) && p (letter_of (get_or bs w 0 / 16 % 16)))) ∙ sym (and_assoc (p (letter_of (b / 16 % 16)) && p (letter_of (b % 16))) (all (are_pair p) (take w bs)) (p (letter_of (get_or bs w 0 / 16 % 16)))))

  none_passes : (n : ℕ) → 0 < n → p 0 ≡ false → all p (replicate n 0) ≡ false
  unfolding all
  none_passes zero h e = absurd (omega arith)
  none_passes (suc n) h e = rw e

  module _ (n : ℕ) (bs : List ℕ) (counted : length bs ≡ half_up n) where
    is-counted : eqb (length bs) (half_up n) ≡ true
    is-counted = eq-eqb (length bs) (half_up n) counted

    -- an even number of letters
    even-tested : n % 2 ≡ 0 → all p (unpacked n bs) ≡ all (are_pair p) (take (n / 2) bs)
    even-tested even =
        let w : ℕ = n / 2 in
        let parts : n ≡ w * 2 = omega arith in
        let behind : get_or bs w 0 ≡ 0 = get_or-eq_default bs 0 {n = w} (omega arith) in
        let none : set_at bs n ≡ 0 = ap (set_at bs) parts ∙ high_at bs w ∙ rw behind in
        ap (all p) (spare-zero n bs is-counted (eq-eqb (set_at bs n) 0 none)) ∙ ap (λ (k : ℕ). all p (take k (letters_in bs))) parts ∙ even-letters w bs (omega arith)

    -- an odd one
    odd-tested : (n % 2 ≡ 0 → ⊥) → p 0 ≡ false → all p (unpacked n bs) ≡ all (are_pair p) (take (n / 2) bs) && is_last p (get_or bs (n / 2) 0)
    unfolding is_last
    odd-tested odd e = by (eqb (get_or bs (n / 2) 0 % 16) 0) refl
      where
        by : (t : Bool) → eqb (get_or bs (n / 2) 0 % 16) 0 ≡ t → all p (unpacked n bs) ≡ all (are_pair p) (take (n / 2) bs) && (p (letter_of (get_or bs (n / 2) 0 / 16 % 16)) && t)
        by t h =
            let w : ℕ = n / 2 in
            let parts : n ≡ w * 2 + 1 = omega arith in
            let spare : eqb (set_at bs n) 0 ≡ t = ap (λ (k : ℕ). eqb (set_at bs k) 0) parts ∙ ap (λ (x : ℕ). eqb x 0) (low_at bs w) ∙ h in
            on t spare
          where
            on : (t : Bool) → eqb (set_at bs n) 0 ≡ t → all p (unpacked n bs) ≡ all (are_pair p) (take (n / 2) bs) && (p (letter_of (get_or bs (n / 2) 0 / 16 % 16)) && t)
            on true spare =
                let w : ℕ = n / 2 in
                let parts : n ≡ w * 2 + 1 = omega arith in
                ap (all p) (spare-zero n bs is-counted spare) ∙ ap (λ (k : ℕ). all p (take k (letters_in bs))) parts ∙ odd-letters w bs (omega arith) ∙ rw and-true
            on false spare =
                ap (all p) (spare-used n bs is-counted spare) ∙ none_passes n (omega arith) e ∙ rw (and-false (p (letter_of (get_or bs (n / 2) 0 / 16 % 16))), and-false (all (are_pair p) (take (n / 2) bs)))

    -- the test of the bytes decides
    module _ (pairs : Bool) (is : pairs ≡ all (are_pair p) (take (n / 2) bs)) (e : p 0 ≡ false) where
      pub some-fails : pairs ≡ false → false ≡ all p (unpacked n bs)
      some-fails bad-pairs = by (n % 2) refl
        where
          bad : all (are_pair p) (take (n / 2) bs) ≡ false
          bad = sym is ∙ bad-pairs

          by : (k : ℕ) → n % 2 ≡ k → false ≡ all p (unpacked n bs)
          by zero h = sym (even-tested h ∙ bad)
          by (suc k) h = sym (odd-tested (λ (z : n % 2 ≡ 0). omega arith) e ∙ rw bad)

      pub all-even : pairs ≡ true → n % 2 ≡ 0 → true ≡ all p (unpacked n bs)
      all-even good h = sym (even-tested h ∙ sym is ∙ good)

      pub all-odd : (last : Bool) → pairs ≡ true → (n % 2 ≡ 0 → ⊥) → last ≡ is_last p (get_or bs (n / 2) 0) → last ≡ all p (unpacked n bs)
      all-odd last good h q = q ∙ sym (odd-tested h e ∙ rw (← is, good))
