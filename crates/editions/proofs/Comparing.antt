-- Laws of the whole answer: a refusal of the first, of the second with 100 added, 50, or the list.
-- Assumes nothing.
use Rattle.std.specs.Prelude.{if◌then◌else◌}
use mathlib.Core.Path.{◌≡◌, refl, ap, ◌∙◌}
use mathlib.Core.Bool.{Bool, true, false}
use mathlib.Core.List.{List, [], ◌∷◌}
use Prim.Native.Nat.{ℕ, zero, suc, ◌+◌, ◌-◌, ◌*◌, ◌<◌, ◌≤◌, max}
use native.Mathlib.Omega.{arith}
use lib.Dec.{leb}
use lib.ListN.{length}
use borrow.Author.Tests.{lt-ltb, le-ltb, leb-true}
use Rattle.rules.specs.Bytes.{all, each, Test, first_number, given, refused, unless}
use Rattle.rules.specs.Reference.{Reference, size, reference_tests}
use Rattle.rules.specs.Refusal.{limits, reference_refusal}
use Rattle.rules.specs.Packed.{letters_by}
use Rattle.rules.specs.Editions.{codon_count, differences_from, differences, difference_bytes, listed, edition_tests, compared}
use Rattle.rules.proofs.Tests.{and_left, and_right}
use Rattle.rules.proofs.Reference.{accepted}
use Rattle.rules.proofs.Editions.{length-listed}
use Rattle.reference.specs.Known.{judged_of}
use Rattle.reference.proofs.Judging.{was-refused, was-given, readable, accepted-early}
use Rattle.alike.specs.declared.Edition.{Edition}
use Rattle.alike.specs.Reading.{edition_of, Fits}
use Rattle.editions.specs.Listing.{listing}

-- no refusal of a reference is above 28
few_numbers : (most : ℕ) (ts : List Test) → all (λ (t : Test). leb t.number most) ts ≡ true → first_number ts ≤ most
unfolding first_number all
few_numbers most [] h = omega arith
few_numbers most (t ∷ ts) h = at t.holds (leb-true t.number most (and_left _ _ h)) (few_numbers most ts (and_right (leb t.number most) _ h))
  where
    at : (b : Bool) → t.number ≤ most → first_number ts ≤ most → (if b then t.number else first_number ts) ≤ most
    at true p q = p
    at false p q = q

pub refusal_small : (longest : ℕ) (r : Reference) → reference_refusal longest r ≤ 28
unfolding reference_refusal reference_tests all
refusal_small longest r = few_numbers 28 (reference_tests longest r) refl

unless_some : (n : ℕ) (l : List ℕ) → (n ≡ 0 → ⊥) → unless n l ≡ refused n
unfolding unless
unless_some zero l some = absurd (some refl)
unless_some (suc n) l some = refl

module _ (longest : ℕ) (r s : Reference) (room : ℕ) where
  pub first-refused : (n : ℕ) → reference_refusal longest r ≡ n → (n ≡ 0 → ⊥) → compared longest r s room ≡ refused n
  unfolding compared edition_tests first_number unless
  first-refused zero e some = absurd (some refl)
  first-refused (suc n) e some = rw (e, lt-ltb 0 (suc n) (omega arith))

  pub second-refused : (n : ℕ) → reference_refusal longest r ≡ 0 → reference_refusal longest s ≡ n → (n ≡ 0 → ⊥) → compared longest r s room ≡ refused (100 + n)
  unfolding compared edition_tests first_number unless
  second-refused zero e f some = absurd (some refl)
  second-refused (suc n) e f some = rw (e, f, lt-ltb 0 (suc n) (omega arith)) (unless_some (100 + suc n) (listed r s) (λ z. omega arith))

  pub neither-refused : reference_refusal longest r ≡ 0 → reference_refusal longest s ≡ 0 → compared longest r s room ≡ listing r s room
  unfolding compared edition_tests listing first_number
  neither-refused e f = rw (e, f)

-- the list where it fits, else 50; n is the number of differences that were counted
module _ (r s : Reference) (room past n : ℕ) (ends : past ≡ max (codon_count r) (codon_count s) + 1) (is : n ≡ length (differences_from r s 1 (past - 1))) where
  pub all-differences : each difference_bytes (differences_from r s 1 (past - 1)) ≡ listed r s
  unfolding listed differences
  all-differences = let k : past - 1 ≡ max (codon_count r) (codon_count s) = omega arith in rw k

  pub bytes_counted : n * 4 ≡ length (listed r s)
  unfolding differences
  bytes_counted =
      let k : past - 1 ≡ max (codon_count r) (codon_count s) = omega arith in
      omega (arith, length-listed r s, is ∙ ap (λ (j : ℕ). length (differences_from r s 1 j)) k)

  pub no_room : room < n * 4 → listing r s room ≡ refused 50
  unfolding listing first_number unless
  no_room h = rw (lt-ltb room (length (listed r s)) (omega (arith, bytes_counted)))

  pub has_room : n * 4 ≤ room → listing r s room ≡ given (listed r s)
  unfolding listing first_number unless
  has_room h = rw (le-ltb room (length (listed r s)) (omega (arith, bytes_counted)))

-- an edition that isn't refused
pub fits-of : (s : List ℕ) (x : Edition) → reference_refusal limits.longest (edition_of s x) ≡ 0 → Fits s x
unfolding size
fits-of s x none =
    record {
      readable = readable limits.longest (letters_by x.form s) x.cds x.e (accepted-early limits.longest (letters_by x.form s) x.cds x.e none) (omega arith);
      short = omega (arith, (accepted limits.longest (edition_of s x) none).fits);
    }

-- what the judgement of an edition tells
module _ (s : List ℕ) (x : Edition) where
  pub judged-refused : (n : ℕ) → refused n ≡ judged_of limits.longest (letters_by x.form s) x.cds x.e → (reference_refusal limits.longest (edition_of s x) ≡ n) × (n ≡ 0 → ⊥)
  unfolding judged_of
  judged-refused n h = was-refused _ _ _ h

  pub judged-clear : (p : Bool) → given p ≡ judged_of limits.longest (letters_by x.form s) x.cds x.e → reference_refusal limits.longest (edition_of s x) ≡ 0
  unfolding judged_of
  judged-clear p h = (was-given _ _ _ h).0
