-- Two editions compared (E11): each difference appears once, nothing equal appears, the numbers rise; the list is empty exactly if the two CDS have
-- the same letters and residues; with the editions swapped it is the same with its residues swapped.
-- Assumes nothing.
use Rattle.std.specs.Prelude.{if◌then◌else◌}
use mathlib.Core.Path.{◌≡◌, refl, sym, ap, ◌∙◌}
use mathlib.Core.Bool.{Bool, true, false, ◌&&◌}
use mathlib.Core.List.{List, [], ◌∷◌, map}
use Prim.Native.Nat.{ℕ, zero, suc, ◌+◌, ◌-◌, ◌*◌, ◌≤◌, ◌<◌, max}
use native.Mathlib.Omega.{arith}
use lib.Dec.{eqb, ltb}
use lib.ListN.{length, take, drop}
use lib.Seq.{ext_get_or, take-add, take_all}
use borrow.Author.Tests.{eq-eqb, ne_eqb, eqb-true, eqb-false, ltb-true, lt-ltb}
use Rattle.rules.specs.Bytes.{same, count, each}
use Rattle.rules.specs.Translation.{residue_count}
use Rattle.rules.specs.Reference.{Reference, cds, reference_protein}
use Rattle.rules.specs.Altered.{part}
use Rattle.rules.specs.Editions.{codon_count, codon_letters, codon_residue, is_equal_codon, Difference, difference_at, differences_from, differences, difference_bytes, listed}
use Rattle.rules.proofs.Tests.{and_left, and_right, and_both}
use Rattle.rules.proofs.Trims.{same_self, same-is}
use Rattle.rules.proofs.Translation.{length-translated}

-- the numbers of a list of differences
abbrev pub numbers : List Difference → List ℕ
numbers ds = map (λ (d : Difference). d.number) ds

-- above `last`, strictly rising
unfoldable pub are_rising_numbers : ℕ → List ℕ → Bool
are_rising_numbers last [] = true
are_rising_numbers last (n ∷ ns) = ltb last n && are_rising_numbers n ns

-- the same difference, seen from the other edition
abbrev pub turned : Difference → Difference
turned d = record { number = d.number; first = d.second; second = d.first }

eqb_swap : (a b : ℕ) → eqb a b ≡ eqb b a
eqb_swap a b = by (eqb a b) refl
  where
    by : (t : Bool) → eqb a b ≡ t → eqb a b ≡ eqb b a
    by true h = h ∙ sym (eq-eqb b a (sym (eqb-true a b h)))
    by false h = h ∙ sym (ne_eqb b a (λ e. eqb-false a b h (sym e)))

same-swap : (a b : List ℕ) → same a b ≡ same b a
unfolding same
same-swap [] [] = refl
same-swap [] (y ∷ b) = refl
same-swap (x ∷ a) [] = refl
same-swap (x ∷ a) (y ∷ b) = rw (eqb_swap x y, same-swap a b)

module _ (r s : Reference) where
  equal-swap : (n : ℕ) → is_equal_codon r s n ≡ is_equal_codon s r n
  unfolding is_equal_codon
  equal-swap n = rw (same-swap (codon_letters r n) (codon_letters s n), eqb_swap (codon_residue r n) (codon_residue s n))

  -- compared with the editions swapped
  swapped-from : (n k : ℕ) → differences_from s r n k ≡ map turned (differences_from r s n k)
  unfolding differences_from difference_at
  swapped-from n zero = refl
  swapped-from n (suc k) = rw (← equal-swap n) (by (is_equal_codon r s n) (swapped-from (suc n) k))
    where
      by : (t : Bool) → differences_from s r (suc n) k ≡ map turned (differences_from r s (suc n) k)
          → (if t then differences_from s r (suc n) k else (difference_at s r n ∷ differences_from s r (suc n) k))
          ≡ map turned (if t then differences_from r s (suc n) k else (difference_at r s n ∷ differences_from r s (suc n) k))
      by true h = h
      by false h = ap (difference_at s r n ∷◌) h

  -- each entry is what its number has
  entries_from : (n k : ℕ) → differences_from r s n k ≡ map (difference_at r s) (numbers (differences_from r s n k))
  unfolding differences_from difference_at
  entries_from n zero = refl
  entries_from n (suc k) = by (is_equal_codon r s n) (entries_from (suc n) k)
    where
      by : (t : Bool) → differences_from r s (suc n) k ≡ map (difference_at r s) (numbers (differences_from r s (suc n) k))
          → (if t then differences_from r s (suc n) k else (difference_at r s n ∷ differences_from r s (suc n) k))
          ≡ map (difference_at r s) (numbers (if t then differences_from r s (suc n) k else (difference_at r s n ∷ differences_from r s (suc n) k)))
      by true h = h
      by false h = ap (difference_at r s n ∷◌) h

  -- the numbers rise
  rising-less : (a b : ℕ) (ns : List ℕ) → a ≤ b → are_rising_numbers b ns ≡ true → are_rising_numbers a ns ≡ true
  unfolding are_rising_numbers
  rising-less a b [] h k = refl
  rising-less a b (n ∷ ns) h k =
      let above = ltb-true b n (and_left (ltb b n) (are_rising_numbers n ns) k) in
      and_both (ltb a n) (are_rising_numbers n ns) (lt-ltb a n (omega arith)) (and_right (ltb b n) (are_rising_numbers n ns) k)

  rising-from : (last n k : ℕ) → last < n → are_rising_numbers last (numbers (differences_from r s n k)) ≡ true
  unfolding differences_from difference_at are_rising_numbers
  rising-from last n zero h = refl
  rising-from last n (suc k) h = by (is_equal_codon r s n) (rising-from last (suc n) k (omega arith)) (rising-from n (suc n) k (omega arith))
    where
      by : (t : Bool) → are_rising_numbers last (numbers (differences_from r s (suc n) k)) ≡ true → are_rising_numbers n (numbers (differences_from r s (suc n) k)) ≡ true
          → are_rising_numbers last (numbers (if t then differences_from r s (suc n) k else (difference_at r s n ∷ differences_from r s (suc n) k))) ≡ true
      by true p q = p
      by false p q = and_both (ltb last n) (are_rising_numbers n (numbers (differences_from r s (suc n) k))) (lt-ltb last n h) q

  -- how often a number appears
  none_from : (i n k : ℕ) → (i < n) → count i (numbers (differences_from r s n k)) ≡ 0
  unfolding differences_from difference_at count
  none_from i n zero h = refl
  none_from i n (suc k) h = by (is_equal_codon r s n) (none_from i (suc n) k (omega arith))
    where
      other : eqb i n ≡ false
      other = ne_eqb i n (λ e. omega arith)

      by : (t : Bool) → count i (numbers (differences_from r s (suc n) k)) ≡ 0
          → count i (numbers (if t then differences_from r s (suc n) k else (difference_at r s n ∷ differences_from r s (suc n) k))) ≡ 0
      by true p = p
      by false p = rw other p

  once-from : (i n k : ℕ) → n ≤ i → i < n + k → count i (numbers (differences_from r s n k)) ≡ (if is_equal_codon r s i then 0 else 1)
  unfolding differences_from difference_at count
  once-from i n zero h l = absurd (omega arith)
  once-from i n (suc k) h l = at (eqb i n) refl (λ other. once-from i (suc n) k (omega arith) (omega arith))
    where
      here : (t : Bool) → count n (numbers (if t then differences_from r s (suc n) k else (difference_at r s n ∷ differences_from r s (suc n) k))) ≡ (if t then 0 else 1)
      here true = none_from n (suc n) k (omega arith)
      here false = rw (eq-eqb n n refl) (ap suc (none_from n (suc n) k (omega arith)))

      there : (t : Bool) → eqb i n ≡ false → count i (numbers (differences_from r s (suc n) k)) ≡ (if is_equal_codon r s i then 0 else 1)
          → count i (numbers (if t then differences_from r s (suc n) k else (difference_at r s n ∷ differences_from r s (suc n) k))) ≡ (if is_equal_codon r s i then 0 else 1)
      there true o p = p
      there false o p = rw o p

      at : (t : Bool) → eqb i n ≡ t → ((i ≡ n → ⊥) → count i (numbers (differences_from r s (suc n) k)) ≡ (if is_equal_codon r s i then 0 else 1))
          → count i (numbers (if is_equal_codon r s n then differences_from r s (suc n) k else (difference_at r s n ∷ differences_from r s (suc n) k))) ≡ (if is_equal_codon r s i then 0 else 1)
      at true e more = let is : i ≡ n = eqb-true i n e in rw is (here (is_equal_codon r s n))
      at false e more = there (is_equal_codon r s n) e (more (eqb-false i n e))

  -- The numbers rise.
  pub numbers-rise : are_rising_numbers 0 (numbers (differences r s)) ≡ true
  unfolding differences
  numbers-rise = rising-from 0 1 (max (codon_count r) (codon_count s)) (omega arith)

  -- Each codon that differs appears once, one that is equal doesn't, and its entry has both residues.
  pub each-once : (n : ℕ) → 1 ≤ n → n ≤ max (codon_count r) (codon_count s) → count n (numbers (differences r s)) ≡ (if is_equal_codon r s n then 0 else 1)
  unfolding differences
  each-once n h k = once-from n 1 (max (codon_count r) (codon_count s)) h (omega arith)

  pub its-entry : differences r s ≡ map (difference_at r s) (numbers (differences r s))
  unfolding differences
  its-entry = entries_from 1 (max (codon_count r) (codon_count s))

  -- With the editions swapped, the list is the same with its residues swapped.
  pub swapped : differences s r ≡ map turned (differences r s)
  unfolding differences
  swapped =
      let many : max (codon_count s) (codon_count r) ≡ max (codon_count r) (codon_count s) = omega arith in
      ap (differences_from s r 1) many ∙ swapped-from 1 (max (codon_count r) (codon_count s))

-- lists of the same threes are the same
first_threes : (n : ℕ) (a b : List ℕ) → ((i : ℕ) → i < n → part (3 * i) (3 * (i + 1)) a ≡ part (3 * i) (3 * (i + 1)) b) → take (3 * n) a ≡ take (3 * n) b
unfolding part
first_threes zero a b h = refl
first_threes (suc n) a b h =
    let more : 3 * suc n ≡ 3 * n + 3 = omega arith in
    let three : 3 * (n + 1) - 3 * n ≡ 3 = omega arith in
    let last : take 3 (drop (3 * n) a) ≡ take 3 (drop (3 * n) b) = rw three at (h n (omega arith)) in
    rw (more, take-add (3 * n) 3 a, take-add (3 * n) 3 b, last, first_threes n a b (λ i k. h i (omega arith)))

threes : (n : ℕ) (a b : List ℕ) → length a ≤ 3 * n → length b ≤ 3 * n → ((i : ℕ) → i < n → part (3 * i) (3 * (i + 1)) a ≡ part (3 * i) (3 * (i + 1)) b) → a ≡ b
threes n a b h k same = sym (take_all (3 * n) a h) ∙ first_threes n a b same ∙ take_all (3 * n) b k

module _ (r s : Reference) where
  counted-letters : (x : Reference) → codon_count x ≡ residue_count (length (cds x))
  unfolding codon_count reference_protein
  counted-letters x = length-translated x.table x.exceptions (cds x)

  all-letters : (x : Reference) (n : ℕ) → codon_count x ≤ n → length (cds x) ≤ 3 * n
  unfolding residue_count
  all-letters x n h = omega (arith, counted-letters x)

  -- an empty list leaves no codon that differs
  none_differ : differences r s ≡ [] → (i : ℕ) → i < max (codon_count r) (codon_count s) → is_equal_codon r s (i + 1) ≡ true
  unfolding count
  none_differ h i k = by (is_equal_codon r s (i + 1)) (sym (ap (λ (ds : List Difference). count (i + 1) (numbers ds)) h) ∙ each-once r s (i + 1) (omega arith) (omega arith))
    where
      by : (t : Bool) → ◌≡◌ {A = ℕ} 0 (if t then 0 else 1) → t ≡ true
      by true z = refl
      by false z = absurd (omega arith)

  -- The list is empty exactly if the two CDS have the same letters and residues.
  pub empty-same : differences r s ≡ [] → (cds r ≡ cds s) × (reference_protein r ≡ reference_protein s)
  unfolding is_equal_codon codon_letters codon_residue codon_count
  empty-same h =
      let n = max (codon_count r) (codon_count s) in
      let letters : cds r ≡ cds s =
      threes n (cds r) (cds s) (all-letters r n (omega arith)) (all-letters s n (omega arith))
      (λ i k.
      let back : i + 1 - 1 ≡ i = omega arith in
      rw back at (same-is (codon_letters r (i + 1)) (codon_letters s (i + 1)) (and_left (same (codon_letters r (i + 1)) (codon_letters s (i + 1))) (eqb (codon_residue r (i + 1)) (codon_residue s (i + 1))) (none_differ h i k)))) in
      let long : codon_count r ≡ codon_count s = counted-letters r ∙ ap (λ (l : List ℕ). residue_count (length l)) letters ∙ sym (counted-letters s) in (
        letters,
        ext_get_or 0 (reference_protein r) (reference_protein s) long
            (λ i k.
            let back : i + 1 - 1 ≡ i = omega arith in
            rw back at (eqb-true (codon_residue r (i + 1)) (codon_residue s (i + 1)) (and_right (same (codon_letters r (i + 1)) (codon_letters s (i + 1))) (eqb (codon_residue r (i + 1)) (codon_residue s (i + 1))) (none_differ h i (omega arith))))),
      )

  module _ (letters : cds r ≡ cds s) (residues : reference_protein r ≡ reference_protein s) where
    all-equal : (n : ℕ) → is_equal_codon r s n ≡ true
    unfolding is_equal_codon codon_letters codon_residue
    all-equal n =
        and_both (same (codon_letters r n) (codon_letters s n)) (eqb (codon_residue r n) (codon_residue s n))
        (rw letters (same_self (part (3 * (n - 1)) (3 * n) (cds s))))
        (eq-eqb (codon_residue r n) (codon_residue s n) (rw residues))

    empty-from : (n k : ℕ) → differences_from r s n k ≡ []
    unfolding differences_from
    empty-from n zero = refl
    empty-from n (suc k) = rw (all-equal n) (empty-from (suc n) k)

    pub same-empty : differences r s ≡ []
    unfolding differences
    same-empty = empty-from 1 (max (codon_count r) (codon_count s))

-- and so the bytes
pub listed_empty : (r s : Reference) → listed r s ≡ [] → differences r s ≡ []
unfolding listed each difference_bytes
listed_empty r s h = by (differences r s) h
  where
    by : (ds : List Difference) → each difference_bytes ds ≡ [] → ds ≡ []
    by [] h = refl
    by (d ∷ ds) h = let z : ◌≡◌ {A = ℕ} 0 1 = cc in absurd (omega arith)

pub length-listed : (r s : Reference) → length (listed r s) ≡ 4 * length (differences r s)
unfolding listed each difference_bytes
length-listed r s = by (differences r s)
  where
    by : (ds : List Difference) → length (each difference_bytes ds) ≡ 4 * length ds
    by [] = refl
    by (d ∷ ds) = omega (arith, by ds)
