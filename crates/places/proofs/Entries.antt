-- Laws of codons of letters: the places of two of them among the 4,096 in one sum, and the residue at a place. Assumes nothing.
use mathlib.Core.Path.{◌≡◌, refl, ◌∙◌}
use mathlib.Core.Bool.{true}
use mathlib.Core.List.{List, map}
use Prim.Native.Nat.{ℕ, ◌+◌, ◌*◌, ◌/◌, ◌%◌, ◌<◌}
use native.Mathlib.Omega.{arith}
use lib.Bits.{bit_and, and_le_r}
use lib.Dec.{lit<}
use lib.ListN.{length, get_or}
use Rattle.rules.specs.Letters.{folded}
use Rattle.rules.specs.Translation.{fold_to_letters}
use Rattle.letters.specs.Sets.{letter_number}
use Rattle.rows.specs.Rows.{number_rule, HoldsLetters}
use Rattle.letters.proofs.Listed.{at_byte}
use Rattle.letters.proofs.Sets.{letter-number}
use Rattle.numbers.specs.Packed.{eight_at}
use Rattle.places.specs.Places.{codon_at, entry_at, entries_of, three_at}
use Rattle.places.proofs.Six.{six, six_in, sixfold, six-masked, three_six, eight_six}
use Rattle.places.proofs.Residues.{codon_sets, letter_at_lem}

-- a byte's sum, whose bits 2 to 5 are its letter's number
abbrev sum_of : ℕ → ℕ
sum_of b = bit_and b 31 + bit_and b 14 * 4 + 1

sum_small : (b : ℕ) → sum_of b < 256
sum_small b = omega (arith, and_le_r b 31, and_le_r b 14)

numbered : (b : ℕ) → b < 256 → bit_and (sum_of b) 60 ≡ letter_number b * 4
numbered b h = at_byte 0 (λ (k : ℕ). bit_and (sum_of k) 60) (λ (k : ℕ). letter_number k * 4) refl b h

number_small : (b : ℕ) → letter_number b < 16
number_small b = omega arith

-- the twelve bits from bit 10 on, and from bit 34 on
low_digit : (a p b : ℕ) → p < 4096 → b < 1024 → ((a * 4096 + p) * 1024 + b) / 1024 % 4096 ≡ p
low_digit a p b h k = omega arith

high_digit : (a p b : ℕ) → p < 4096 → b < 17179869184 → ((a * 4096 + p) * 17179869184 + b) / 17179869184 % 4096 ≡ p
high_digit a p b h k = omega arith

-- the numbers in bits 2 to 5 of their bytes, and the same twelve bits higher: those of a codon stand side by side
module _ (n₀ n₁ n₂ n₃ n₄ n₅ : ℕ) (h₀ : n₀ < 16) (h₁ : n₁ < 16) (h₂ : n₂ < 16) (h₃ : n₃ < 16) (h₄ : n₄ < 16) (h₅ : n₅ < 16) where
  low-entry : six (n₀ * 4) (n₁ * 4) (n₂ * 4) (n₃ * 4) (n₄ * 4) (n₅ * 4) * 4097 / 1024 % 4096 ≡ n₂ * 256 + n₀ * 16 + n₁
  low-entry =
      let p : ℕ = n₂ * 256 + n₀ * 16 + n₁ in
      let b : ℕ = n₀ * 4 in
      let a : ℕ = n₁ + n₂ * 256 + n₃ * 65552 + n₄ * 16781312 + n₅ * 4296015872 in
      let spelt : six (n₀ * 4) (n₁ * 4) (n₂ * 4) (n₃ * 4) (n₄ * 4) (n₅ * 4) * 4097 ≡ (a * 4096 + p) * 1024 + b = omega arith in
      rw spelt (low_digit a p b (omega arith) (omega arith))

  high-entry : six (n₀ * 4) (n₁ * 4) (n₂ * 4) (n₃ * 4) (n₄ * 4) (n₅ * 4) * 4097 / 17179869184 % 4096 ≡ n₅ * 256 + n₃ * 16 + n₄
  high-entry =
      let p : ℕ = n₅ * 256 + n₃ * 16 + n₄ in
      let b : ℕ = n₀ * 16388 + n₁ * 4195328 + n₂ * 1074003968 + n₃ * 67108864 in
      let a : ℕ = n₄ + n₅ * 256 in
      let spelt : six (n₀ * 4) (n₁ * 4) (n₂ * 4) (n₃ * 4) (n₄ * 4) (n₅ * 4) * 4097 ≡ (a * 4096 + p) * 17179869184 + b = omega arith in
      rw spelt (high_digit a p b (omega arith) (omega arith))

-- the numbers of six letters
module _ (above b₀ b₁ b₂ b₃ b₄ b₅ : ℕ) (h₀ : b₀ < 256) (h₁ : b₁ < 256) (h₂ : b₂ < 256) (h₃ : b₃ < 256) (h₄ : b₄ < 256) (h₅ : b₅ < 256) where
  entries : entries_of (six_in above b₀ b₁ b₂ b₃ b₄ b₅) ≡ six (letter_number b₀ * 4) (letter_number b₁ * 4) (letter_number b₂ * 4) (letter_number b₃ * 4) (letter_number b₄ * 4) (letter_number b₅ * 4) * 4097
  unfolding entries_of
  entries =
      let sums : six (bit_and b₀ 31) (bit_and b₁ 31) (bit_and b₂ 31) (bit_and b₃ 31) (bit_and b₄ 31) (bit_and b₅ 31)
      + six (bit_and b₀ 14) (bit_and b₁ 14) (bit_and b₂ 14) (bit_and b₃ 14) (bit_and b₄ 14) (bit_and b₅ 14) * 4 + sixfold 1
      ≡ six_in 0 (sum_of b₀) (sum_of b₁) (sum_of b₂) (sum_of b₃) (sum_of b₄) (sum_of b₅) = omega arith in
      rw (
        six-masked 31 (lit< tt) above b₀ b₁ b₂ b₃ b₄ b₅ h₀ h₁ h₂ h₃ h₄ h₅,
        six-masked 14 (lit< tt) above b₀ b₁ b₂ b₃ b₄ b₅ h₀ h₁ h₂ h₃ h₄ h₅,
        sums,
        six-masked 60 (lit< tt) 0 (sum_of b₀) (sum_of b₁) (sum_of b₂) (sum_of b₃) (sum_of b₄) (sum_of b₅) (sum_small b₀) (sum_small b₁) (sum_small b₂) (sum_small b₃) (sum_small b₄) (sum_small b₅),
        numbered b₀ h₀,
        numbered b₁ h₁,
        numbered b₂ h₂,
        numbered b₃ h₃,
        numbered b₄ h₄,
        numbered b₅ h₅,
      )

  pub first_entry : entries_of (six_in above b₀ b₁ b₂ b₃ b₄ b₅) / 1024 % 4096 ≡ letter_number b₂ * 256 + letter_number b₀ * 16 + letter_number b₁
  first_entry = rw entries (low-entry _ _ _ _ _ _ (number_small b₀) (number_small b₁) (number_small b₂) (number_small b₃) (number_small b₄) (number_small b₅))

  pub second-entry : entries_of (six_in above b₀ b₁ b₂ b₃ b₄ b₅) / 17179869184 % 4096 ≡ letter_number b₅ * 256 + letter_number b₃ * 16 + letter_number b₄
  second-entry = rw entries (high-entry _ _ _ _ _ _ (number_small b₀) (number_small b₁) (number_small b₂) (number_small b₃) (number_small b₄) (number_small b₅))

-- of codons of a string: two at a time, and one
module _ (s : List ℕ) (i : ℕ) (bytes : (k : ℕ) → get_or s k 0 < 256) where
  pub entry_first : entries_of (eight_at s (i * 3)) / 1024 % 4096 ≡ entry_at s i
  unfolding entry_at
  entry_first =
      rw (eight_six s (i * 3))
      (first_entry _ (get_or s (i * 3) 0) (get_or s (i * 3 + 1) 0) (get_or s (i * 3 + 2) 0) (get_or s (i * 3 + 3) 0) (get_or s (i * 3 + 4) 0) (get_or s (i * 3 + 5) 0)
      (bytes (i * 3)) (bytes (i * 3 + 1)) (bytes (i * 3 + 2)) (bytes (i * 3 + 3)) (bytes (i * 3 + 4)) (bytes (i * 3 + 5)))

  pub entry-second : entries_of (eight_at s (i * 3)) / 17179869184 % 4096 ≡ entry_at s (i + 1)
  unfolding entry_at
  entry-second =
      let k₀ : (i + 1) * 3 ≡ i * 3 + 3 = omega arith in
      let k₁ : i * 3 + 3 + 1 ≡ i * 3 + 4 = omega arith in
      let k₂ : i * 3 + 3 + 2 ≡ i * 3 + 5 = omega arith in
      rw (eight_six s (i * 3), k₀, k₁, k₂)
      (second-entry _ (get_or s (i * 3) 0) (get_or s (i * 3 + 1) 0) (get_or s (i * 3 + 2) 0) (get_or s (i * 3 + 3) 0) (get_or s (i * 3 + 4) 0) (get_or s (i * 3 + 5) 0)
      (bytes (i * 3)) (bytes (i * 3 + 1)) (bytes (i * 3 + 2)) (bytes (i * 3 + 3)) (bytes (i * 3 + 4)) (bytes (i * 3 + 5)))

  pub entry-one : entries_of (three_at s (i * 3)) / 1024 % 4096 ≡ entry_at s i
  unfolding entry_at
  entry-one =
      rw (three_six s (i * 3))
      (first_entry 0 (get_or s (i * 3) 0) (get_or s (i * 3 + 1) 0) (get_or s (i * 3 + 2) 0) 0 0 0
      (bytes (i * 3)) (bytes (i * 3 + 1)) (bytes (i * 3 + 2)) (lit< tt) (lit< tt) (lit< tt))

pub entry_small : (s : List ℕ) (i : ℕ) → entry_at s i < 4096
unfolding entry_at
entry_small s i = omega arith

-- a codon's residue by the numbers of its letters
number_read : (t : ℕ) (s : List ℕ) (i : ℕ) → fold_to_letters s ≡ true → i < length s / 3 → number_rule t (letter_number (get_or s (i * 3) 0)) (letter_number (get_or s (i * 3 + 1) 0)) (letter_number (get_or s (i * 3 + 2) 0)) ≡ codon_at t (map folded s) i
number_read t s i letters h =
    rw (
      codon_sets t s i,
      letter-number (get_or s (i * 3) 0) (letter_at_lem s (i * 3) letters (omega arith)),
      letter-number (get_or s (i * 3 + 1) 0) (letter_at_lem s (i * 3 + 1) letters (omega arith)),
      letter-number (get_or s (i * 3 + 2) 0) (letter_at_lem s (i * 3 + 2) letters (omega arith)),
    )

module _ (t : ℕ) (s : List ℕ) (i p : ℕ) (letters : fold_to_letters s ≡ true) (h : i < length s / 3) (is : p ≡ entry_at s i) where
  -- the table has it at its place
  pub entry_read : (residues : List ℕ) → HoldsLetters t residues → get_or residues p 0 ≡ codon_at t (map folded s) i
  unfolding entry_at
  entry_read residues holds =
      rw is
      (holds.entry (letter_number (get_or s (i * 3) 0)) (letter_number (get_or s (i * 3 + 1) 0)) (letter_number (get_or s (i * 3 + 2) 0)) (number_small _) (number_small _) (number_small _)
      ∙ number_read t s i letters h)
