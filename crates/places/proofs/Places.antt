-- Laws of plain codons: the places of two of them in one product, and the residue at a place. Assumes nothing.
use mathlib.Core.Path.{◌≡◌, sym, ◌∙◌}
use mathlib.Core.Bool.{Bool, true, ◌&&◌}
use mathlib.Core.List.{List, map}
use Prim.Native.Nat.{ℕ, ◌+◌, ◌*◌, ◌/◌, ◌%◌, ◌<◌}
use native.Mathlib.Omega.{arith}
use lib.Bits.{bit_and, and_high}
use lib.Dec.{lit<}
use lib.ListN.{length, get_or}
use Rattle.rules.specs.Letters.{folded}
use Rattle.letters.specs.Sets.{folds_to_base}
use Rattle.codons.specs.Tables.{HoldsPlain}
use Rattle.letters.proofs.Sets.{and_left, and_right, base_set_lem}
use Rattle.numbers.specs.Packed.{eight_at}
use Rattle.places.specs.Places.{codon_at, number_of, place_at, fold_to_bases}
use Rattle.places.proofs.Six.{six, six-masked, eight_six}
use Rattle.places.proofs.Residues.{codon_sets, base_at_lem}

-- the two bits of a byte's number, kept where they stand
masked : (b : ℕ) → bit_and b 6 ≡ number_of b * 2
masked b = and_high b 2 1

-- the six bits from bit 17 on, and from bit 41 on
low_digit : (a p b : ℕ) → p < 64 → b < 131072 → ((a * 64 + p) * 131072 + b) / 131072 % 64 ≡ p
low_digit a p b h k = omega arith

high_digit : (a p b : ℕ) → p < 64 → b < 2199023255552 → ((a * 64 + p) * 2199023255552 + b) / 2199023255552 % 64 ≡ p
high_digit a p b h k = omega arith

-- times 1 + 2 ^ 10 + 2 ^ 20 the numbers of a codon stand side by side, those of the first from bit 17 on, those of the second from bit 41 on
module _ (n₀ n₁ n₂ n₃ n₄ n₅ : ℕ) (h₀ : n₀ < 4) (h₁ : n₁ < 4) (h₂ : n₂ < 4) (h₃ : n₃ < 4) (h₄ : n₄ < 4) (h₅ : n₅ < 4) where
  low-place : six (n₀ * 2) (n₁ * 2) (n₂ * 2) (n₃ * 2) (n₄ * 2) (n₅ * 2) * 1049601 / 131072 % 64 ≡ n₀ * 16 + n₁ * 4 + n₂
  low-place =
      let p : ℕ = n₀ * 16 + n₁ * 4 + n₂ in
      let b : ℕ = n₀ * 2050 + n₁ * 512 in
      let a : ℕ = n₁ * 64 + n₂ * 16400 + n₃ * 4198404 + n₄ * 1074791424 + n₅ * 275146604544 in
      let spelt : six (n₀ * 2) (n₁ * 2) (n₂ * 2) (n₃ * 2) (n₄ * 2) (n₅ * 2) * 1049601 ≡ (a * 64 + p) * 131072 + b = omega arith in
      rw spelt (low_digit a p b (omega arith) (omega arith))

  high-place : six (n₀ * 2) (n₁ * 2) (n₂ * 2) (n₃ * 2) (n₄ * 2) (n₅ * 2) * 1049601 / 2199023255552 % 64 ≡ n₃ * 16 + n₄ * 4 + n₅
  high-place =
      let p : ℕ = n₃ * 16 + n₄ * 4 + n₅ in
      let b : ℕ = n₀ * 2099202 + n₁ * 537395712 + n₂ * 137573302272 + n₃ * 34393292800 + n₄ * 8589934592 in
      let a : ℕ = n₄ * 64 + n₅ * 16400 in
      let spelt : six (n₀ * 2) (n₁ * 2) (n₂ * 2) (n₃ * 2) (n₄ * 2) (n₅ * 2) * 1049601 ≡ (a * 64 + p) * 2199023255552 + b = omega arith in
      rw spelt (high_digit a p b (omega arith) (omega arith))

number_small : (b : ℕ) → number_of b < 4
number_small b = omega arith

-- two codons at a time
module _ (s : List ℕ) (i : ℕ) (bytes : (k : ℕ) → get_or s k 0 < 256) where
  pair : bit_and (eight_at s (i * 3)) 6622940628486
      ≡ six (number_of (get_or s (i * 3) 0) * 2) (number_of (get_or s (i * 3 + 1) 0) * 2) (number_of (get_or s (i * 3 + 2) 0) * 2)
      (number_of (get_or s (i * 3 + 3) 0) * 2) (number_of (get_or s (i * 3 + 4) 0) * 2) (number_of (get_or s (i * 3 + 5) 0) * 2)
  pair =
      rw (
        eight_six s (i * 3),
        six-masked 6 (lit< tt) (get_or s (i * 3 + 7) 0 * 256 + get_or s (i * 3 + 6) 0) (get_or s (i * 3) 0) (get_or s (i * 3 + 1) 0) (get_or s (i * 3 + 2) 0) (get_or s (i * 3 + 3) 0) (get_or s (i * 3 + 4) 0) (get_or s (i * 3 + 5) 0)
            (bytes (i * 3)) (bytes (i * 3 + 1)) (bytes (i * 3 + 2)) (bytes (i * 3 + 3)) (bytes (i * 3 + 4)) (bytes (i * 3 + 5)),
        masked (get_or s (i * 3) 0),
        masked (get_or s (i * 3 + 1) 0),
        masked (get_or s (i * 3 + 2) 0),
        masked (get_or s (i * 3 + 3) 0),
        masked (get_or s (i * 3 + 4) 0),
        masked (get_or s (i * 3 + 5) 0),
      )

  pub first-place : bit_and (eight_at s (i * 3)) 6622940628486 * 1049601 / 131072 % 64 ≡ place_at s i
  unfolding place_at
  first-place = rw pair (low-place _ _ _ _ _ _ (number_small _) (number_small _) (number_small _) (number_small _) (number_small _) (number_small _))

  pub second-place : bit_and (eight_at s (i * 3)) 6622940628486 * 1049601 / 2199023255552 % 64 ≡ place_at s (i + 1)
  unfolding place_at
  second-place =
      let k₀ : (i + 1) * 3 ≡ i * 3 + 3 = omega arith in
      let k₁ : i * 3 + 3 + 1 ≡ i * 3 + 4 = omega arith in
      let k₂ : i * 3 + 3 + 2 ≡ i * 3 + 5 = omega arith in
      rw (pair, k₀, k₁, k₂) (high-place _ _ _ _ _ _ (number_small _) (number_small _) (number_small _) (number_small _) (number_small _) (number_small _))

pub place_small : (s : List ℕ) (i : ℕ) → place_at s i < 64
unfolding place_at
place_small s i = omega arith

-- the table has a plain codon's residue at its place
module _ (t : ℕ) (code s : List ℕ) (i p : ℕ) (holds : HoldsPlain t code) (is : p ≡ place_at s i) where
  codon-read : folds_to_base (get_or s (i * 3) 0) ≡ true → folds_to_base (get_or s (i * 3 + 1) 0) ≡ true → folds_to_base (get_or s (i * 3 + 2) 0) ≡ true
      → get_or code p 0 ≡ codon_at t (map folded s) i
  unfolding place_at
  codon-read ha hb hc =
      let a : ℕ = get_or s (i * 3) 0 in
      let b : ℕ = get_or s (i * 3 + 1) 0 in
      let c : ℕ = get_or s (i * 3 + 2) 0 in
      rw (is, codon_sets t s i, base_set_lem a ha, base_set_lem b hb, base_set_lem c hc)
      (holds.entry (number_of a) (number_of b) (number_of c) (number_small a) (number_small b) (number_small c))

  -- all letters are bases, or those of the codon
  pub place_read : fold_to_bases s ≡ true → i < length s / 3 → get_or code p 0 ≡ codon_at t (map folded s) i
  place_read bases h =
      codon-read (base_at_lem s (i * 3) bases (omega arith)) (base_at_lem s (i * 3 + 1) bases (omega arith)) (base_at_lem s (i * 3 + 2) bases (omega arith))

  pub tested-read : {x y z : Bool} → x ≡ folds_to_base (get_or s (i * 3) 0) → y ≡ folds_to_base (get_or s (i * 3 + 1) 0) → z ≡ folds_to_base (get_or s (i * 3 + 2) 0)
      → (x && y) && z ≡ true → get_or code p 0 ≡ codon_at t (map folded s) i
  tested-read {x} {y} {z} ex ey ez e =
      codon-read (sym ex ∙ and_left x y (and_left (x && y) z e)) (sym ey ∙ and_right x y (and_left (x && y) z e)) (sym ez ∙ and_right (x && y) z e)
