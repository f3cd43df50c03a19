-- A codon's letters and its number tell the same.
-- Assumes nothing.
use mathlib.Core.Path.{◌≡◌, refl, sym, ap, ◌∙◌}
use mathlib.Core.Bool.{Bool, true, false, ◌&&◌}
use mathlib.Core.List.{List, [], ◌∷◌}
use Prim.Native.Nat.{ℕ, zero, suc, ◌+◌, ◌-◌, ◌*◌, ◌/◌, ◌%◌, ◌<◌, ◌≤◌}
use native.Mathlib.Decide.{ℕ_discrete}
use native.Mathlib.Omega.{arith}
use lib.Dec.{eqb, ltb}
use lib.ListN.{length, get_or, drop, length-take}
use lib.Seq.{get_or-take, get_or-drop}
use borrow.Author.Tests.{eqb-true, ltb-true, eq-eqb, ne_eqb}
use Rattle.rules.specs.Bytes.{same, all}
use Rattle.rules.specs.Letters.{pick, letters, letter_set, is_letter}
use Rattle.rules.specs.Reference.{Reference, cds}
use Rattle.rules.specs.Altered.{part}
use Rattle.rules.specs.Editions.{codon_letters}
use Rattle.rules.proofs.Tests.{and_left, and_right}
use Rattle.rules.proofs.Trims.{same_self, same-is}
use Rattle.rules.proofs.Complement.{of-letters}
use Rattle.rules.proofs.Parts.{letters-part}
use Rattle.entries.specs.Entries.{base_at, entry_of}
use Rattle.entries.proofs.Entries.{none_set}

-- the letter of a set
key_in : ℕ → List (ℕ × ℕ) → ℕ
key_in s [] = 0
key_in s (p ∷ ps) = pick (eqb s p.1) p.0 (key_in s ps)

set_back : (b : ℕ) → is_letter b ≡ true → key_in (letter_set b) letters ≡ b
unfolding all letter_set key_in
set_back b h = eqb-true _ b (of-letters (λ x. eqb (key_in (letter_set x) letters) x) b refl h)

pub set_small : (b : ℕ) → is_letter b ≡ true → letter_set b < 16
unfolding all letter_set
set_small b h = ltb-true (letter_set b) 16 (of-letters (λ x. ltb (letter_set x) 16) b refl h)

pub set_some : (b : ℕ) → is_letter b ≡ true → 0 < letter_set b
unfolding is_letter
set_some b h = ltb-true 0 (letter_set b) h

-- the number of up to three letters
number_of : List ℕ → ℕ
number_of l = letter_set (get_or l 0 0) * 256 + letter_set (get_or l 1 0) * 16 + letter_set (get_or l 2 0)

-- and the letters of a number
with_letter : ℕ → List ℕ → List ℕ
with_letter zero l = l
with_letter (suc s) l = key_in (suc s) letters ∷ l

letters_of : ℕ → List ℕ
letters_of e = with_letter (e / 256) (with_letter (e / 16 % 16) (with_letter (e % 16) []))

with_letter_lem : (b s : ℕ) (l : List ℕ) → is_letter b ≡ true → s ≡ letter_set b → with_letter s l ≡ b ∷ l
unfolding with_letter
with_letter_lem b zero l h e = absurd (omega (arith, set_some b h))
with_letter_lem b (suc s) l h e = ap (◌∷ l) (ap (λ (s : ℕ). key_in s letters) e ∙ set_back b h)

with_none : (s : ℕ) (l : List ℕ) → s ≡ 0 → with_letter s l ≡ l
unfolding with_letter
with_none zero l e = refl
with_none (suc s) l e = absurd (omega arith)

letters_back : (l : List ℕ) → all is_letter l ≡ true → length l ≤ 3 → letters_of (number_of l) ≡ l
unfolding all number_of letters_of
letters_back [] h n = rw none_set (with_none _ _ (omega arith) ∙ with_none _ _ (omega arith) ∙ with_none _ _ (omega arith))
letters_back (a ∷ []) h n =
    let is = and_left (is_letter a) true h in
    rw none_set (with_letter_lem a _ _ is (omega (arith, set_small a is)) ∙ ap (a ∷◌) (with_none _ _ (omega (arith, set_small a is)) ∙ with_none _ _ (omega arith)))
letters_back (a ∷ b ∷ []) h n =
    let ha = and_left (is_letter a) (is_letter b && true) h in
    let hb = and_left (is_letter b) true (and_right (is_letter a) (is_letter b && true) h) in
    rw none_set
    (with_letter_lem a _ _ ha (omega (arith, set_small b hb))
    ∙ ap (a ∷◌) (with_letter_lem b _ _ hb (omega (arith, set_small b hb)) ∙ ap (b ∷◌) (with_none _ _ (omega arith))))
letters_back (a ∷ b ∷ c ∷ []) h n =
    let ha = and_left (is_letter a) (is_letter b && (is_letter c && true)) h in
    let rest = and_right (is_letter a) (is_letter b && (is_letter c && true)) h in
    let hb = and_left (is_letter b) (is_letter c && true) rest in
    let hc = and_left (is_letter c) true (and_right (is_letter b) (is_letter c && true) rest) in
    with_letter_lem a _ _ ha (omega (arith, set_small b hb, set_small c hc))
    ∙ ap (a ∷◌) (with_letter_lem b _ _ hb (omega (arith, set_small b hb, set_small c hc)) ∙ ap (b ∷◌) (with_letter_lem c _ _ hc (omega (arith, set_small c hc))))
letters_back (a ∷ b ∷ c ∷ d ∷ l) h n = absurd (omega arith)

module _ (r : Reference) (n : ℕ) (good : all is_letter (cds r) ≡ true) where
  letters-few : length (codon_letters r n) ≤ 3
  unfolding codon_letters part
  letters-few = rw length-take (omega arith)

  letters-good : all is_letter (codon_letters r n) ≡ true
  unfolding codon_letters
  letters-good = letters-part (3 * (n - 1)) (3 * n) (cds r) good

  -- the number is that of the codon's letters
  number_is : 1 ≤ n → entry_of r n ≡ number_of (codon_letters r n)
  unfolding entry_of base_at number_of codon_letters part
  number_is one =
      let three : 3 * n - 3 * (n - 1) ≡ 3 = omega arith in
      let at : 3 * (n - 1) ≡ (n - 1) * 3 = omega arith in
      let first : (n - 1) * 3 + 0 ≡ (n - 1) * 3 = omega arith in
      rw (three, at)
      (rw (
        get_or-take 3 (drop ((n - 1) * 3) (cds r)) 0 0 (omega arith),
        get_or-take 3 (drop ((n - 1) * 3) (cds r)) 1 0 (omega arith),
        get_or-take 3 (drop ((n - 1) * 3) (cds r)) 2 0 (omega arith),
        get_or-drop ((n - 1) * 3) (cds r) 0 0,
        get_or-drop ((n - 1) * 3) (cds r) 1 0,
        get_or-drop ((n - 1) * 3) (cds r) 2 0,
        first,
      ))

  letters-are : 1 ≤ n → codon_letters r n ≡ letters_of (entry_of r n)
  letters-are one = sym (ap letters_of (number_is one) ∙ letters_back (codon_letters r n) letters-good letters-few)

-- so two codons have the same letters where their numbers are equal
pub same-letters : (r s : Reference) (n : ℕ) → all is_letter (cds r) ≡ true → all is_letter (cds s) ≡ true → 1 ≤ n
    → same (codon_letters r n) (codon_letters s n) ≡ eqb (entry_of r n) (entry_of s n)
same-letters r s n h k one = by (ℕ_discrete (entry_of r n) (entry_of s n))
  where
    by : Dec (entry_of r n ≡ entry_of s n) → same (codon_letters r n) (codon_letters s n) ≡ eqb (entry_of r n) (entry_of s n)
    by (yes e) =
        let equal : codon_letters r n ≡ codon_letters s n = letters-are r n h one ∙ ap letters_of e ∙ sym (letters-are s n k one) in
        rw (equal, eq-eqb (entry_of r n) (entry_of s n) e) (same_self (codon_letters s n))
    by (no e) = at (same (codon_letters r n) (codon_letters s n)) refl
      where
        at : (t : Bool) → same (codon_letters r n) (codon_letters s n) ≡ t → t ≡ eqb (entry_of r n) (entry_of s n)
        at true q = absurd (e (number_is r n h one ∙ ap number_of (same-is (codon_letters r n) (codon_letters s n) q) ∙ sym (number_is s n k one)))
        at false q = sym (ne_eqb (entry_of r n) (entry_of s n) e)
