-- Laws of positions that aren't outside. Assumes nothing.
use mathlib.Core.Path.{◌≡◌, refl}
use mathlib.Core.Bool.{false}
use Prim.Native.Nat.{ℕ, ◌+◌, ◌-◌, ◌≤◌, ◌<◌}
use native.Mathlib.Omega.{arith}
use Rattle.rules.specs.declared.Position.{Position}
use Rattle.rules.specs.declared.Position.TheVariants.{Plus, Minus, Star}
use Rattle.rules.specs.Position.{is_outside, index}
use Rattle.rules.proofs.Span.{within}

-- the number of a position that isn't outside
module _ (cs ce : ℕ) (p : Position) (n : ℕ) where
  pub in-cds : p ≡ Plus n → is_outside cs ce p ≡ false → (1 ≤ n) × (n ≤ ce + 1 - cs)
  unfolding is_outside
  in-cds e h = within n (ce + 1 - cs) (rw e at h)

  pub in-front : p ≡ Minus n → is_outside cs ce p ≡ false → (1 ≤ n) × (n ≤ cs - 1)
  unfolding is_outside
  in-front e h = within n (cs - 1) (rw e at h)

  pub in-star : p ≡ Star n → is_outside cs ce p ≡ false → (1 ≤ n) × (n ≤ 65535)
  unfolding is_outside
  in-star e h = within n 65535 (rw e at h)

-- so its index is small
pub index_near : (cs ce len : ℕ) (p : Position) → 1 ≤ cs → cs ≤ ce → is_outside cs ce p ≡ false → index cs ce len p < ce + 65535
unfolding index
index_near cs ce len (Plus n) first rising h = omega (arith, in-cds cs ce (Plus n) n refl h)
index_near cs ce len (Minus n) first rising h = omega arith
index_near cs ce len (Star n) first rising h = omega (arith, in-star cs ce (Star n) n refl h)
