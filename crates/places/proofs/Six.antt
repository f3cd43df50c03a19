-- Laws of six bytes in one number, the first lowest: a mask works on each byte by itself. Assumes nothing.
use mathlib.Core.Path.{◌≡◌, ap, ◌∙◌}
use mathlib.Core.List.{List}
use Prim.Native.Nat.{ℕ, ◌+◌, ◌*◌, ◌<◌}
use native.Mathlib.Nat.{zero-add}
use native.Mathlib.Omega.{arith}
use lib.Bits.{bit_and, and_block, and_zero_r}
use lib.ListN.{get_or}
use Rattle.numbers.specs.Packed.{eight_at}
use Rattle.places.specs.Places.{three_at}

abbrev pub six : ℕ → ℕ → ℕ → ℕ → ℕ → ℕ → ℕ
six b₀ b₁ b₂ b₃ b₄ b₅ = ((((b₅ * 256 + b₄) * 256 + b₃) * 256 + b₂) * 256 + b₁) * 256 + b₀

-- with what stands above them
abbrev pub six_in : ℕ → ℕ → ℕ → ℕ → ℕ → ℕ → ℕ → ℕ
six_in above b₀ b₁ b₂ b₃ b₄ b₅ = six b₀ b₁ b₂ b₃ b₄ (above * 256 + b₅)

-- one byte six times
abbrev pub sixfold : ℕ → ℕ
sixfold k = six k k k k k k

module _ (k : ℕ) (small : k < 256) where
  last : (above b : ℕ) → b < 256 → bit_and (above * 256 + b) k ≡ bit_and b k
  last above b h =
      let e : k ≡ 0 * 256 + k = omega arith in
      ap (bit_and (above * 256 + b)) e ∙ and_block 8 above 0 b k h small ∙ ap (λ (x : ℕ). x * 256 + bit_and b k) (and_zero_r above) ∙ zero-add (bit_and b k)

  pub six-masked : (above b₀ b₁ b₂ b₃ b₄ b₅ : ℕ) → b₀ < 256 → b₁ < 256 → b₂ < 256 → b₃ < 256 → b₄ < 256 → b₅ < 256
      → bit_and (six_in above b₀ b₁ b₂ b₃ b₄ b₅) (sixfold k) ≡ six (bit_and b₀ k) (bit_and b₁ k) (bit_and b₂ k) (bit_and b₃ k) (bit_and b₄ k) (bit_and b₅ k)
  six-masked above b₀ b₁ b₂ b₃ b₄ b₅ h₀ h₁ h₂ h₃ h₄ h₅ =
      let x₅ : ℕ = above * 256 + b₅ in
      let x₄ : ℕ = x₅ * 256 + b₄ in
      let x₃ : ℕ = x₄ * 256 + b₃ in
      let x₂ : ℕ = x₃ * 256 + b₂ in
      let x₁ : ℕ = x₂ * 256 + b₁ in
      let m₄ : ℕ = k * 256 + k in
      let m₃ : ℕ = m₄ * 256 + k in
      let m₂ : ℕ = m₃ * 256 + k in
      let m₁ : ℕ = m₂ * 256 + k in
      rw (
        and_block 8 x₁ m₁ b₀ k h₀ small,
        and_block 8 x₂ m₂ b₁ k h₁ small,
        and_block 8 x₃ m₃ b₂ k h₂ small,
        and_block 8 x₄ m₄ b₃ k h₃ small,
        and_block 8 x₅ k b₄ k h₄ small,
        last above b₅ h₅,
      )

-- three bytes of a string, and eight
pub three_six : (s : List ℕ) (k : ℕ) → three_at s k ≡ six_in 0 (get_or s k 0) (get_or s (k + 1) 0) (get_or s (k + 2) 0) 0 0 0
three_six s k = omega arith

pub eight_six : (s : List ℕ) (k : ℕ)
    → eight_at s k ≡ six_in (get_or s (k + 7) 0 * 256 + get_or s (k + 6) 0) (get_or s k 0) (get_or s (k + 1) 0) (get_or s (k + 2) 0) (get_or s (k + 3) 0) (get_or s (k + 4) 0) (get_or s (k + 5) 0)
eight_six s k =
    let k₅ : k + 4 + 1 ≡ k + 5 = omega arith in
    let k₆ : k + 4 + 2 ≡ k + 6 = omega arith in
    let k₇ : k + 4 + 3 ≡ k + 7 = omega arith in
    rw (k₅, k₆, k₇) (omega arith)
