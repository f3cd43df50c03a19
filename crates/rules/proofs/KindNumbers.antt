-- A law of the numbers of kinds: every number but 1 to 7 is an unknown kind.
-- Assumes nothing.
use mathlib.Core.Path.{◌≡◌, refl}
use Prim.Native.Nat.{ℕ, zero, suc}
use Rattle.rules.specs.declared.Kind.TheVariants as kind
use Rattle.rules.specs.Values.{kind_at}

pub kind_other : (n : ℕ) → (n ≡ 1 → ⊥) → (n ≡ 2 → ⊥) → (n ≡ 3 → ⊥) → (n ≡ 4 → ⊥) → (n ≡ 5 → ⊥) → (n ≡ 6 → ⊥) → (n ≡ 7 → ⊥) → kind.Other ≡ kind_at n
kind_other zero h₁ h₂ h₃ h₄ h₅ h₆ h₇ = refl
kind_other (suc zero) h₁ h₂ h₃ h₄ h₅ h₆ h₇ = absurd (h₁ refl)
kind_other (suc (suc zero)) h₁ h₂ h₃ h₄ h₅ h₆ h₇ = absurd (h₂ refl)
kind_other (suc (suc (suc zero))) h₁ h₂ h₃ h₄ h₅ h₆ h₇ = absurd (h₃ refl)
kind_other (suc (suc (suc (suc zero)))) h₁ h₂ h₃ h₄ h₅ h₆ h₇ = absurd (h₄ refl)
kind_other (suc (suc (suc (suc (suc zero))))) h₁ h₂ h₃ h₄ h₅ h₆ h₇ = absurd (h₅ refl)
kind_other (suc (suc (suc (suc (suc (suc zero)))))) h₁ h₂ h₃ h₄ h₅ h₆ h₇ = absurd (h₆ refl)
kind_other (suc (suc (suc (suc (suc (suc (suc zero))))))) h₁ h₂ h₃ h₄ h₅ h₆ h₇ = absurd (h₇ refl)
kind_other (suc (suc (suc (suc (suc (suc (suc (suc n)))))))) h₁ h₂ h₃ h₄ h₅ h₆ h₇ = refl
