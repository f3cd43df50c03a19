-- Laws of a proposal that begins where two proteins part, with what the calls answer as variables.
-- Assumes nothing.
use mathlib.Core.Path.{◌≡◌, refl, sym, ap, ◌∙◌}
use mathlib.Core.Bool.{Bool, true, false, ◌&&◌}
use mathlib.Core.List.{List}
use Prim.Native.Nat.{ℕ, ◌+◌, ◌-◌, ◌≤◌}
use native.Mathlib.Omega.{arith}
use lib.Dec.{eqb}
use lib.ListN.{length, take, drop, length-take, length-drop}
use borrow.Author.Tests.{eq-eqb, ne_eqb, eqb-true, eqb-false}
use Rattle.rules.specs.Trims.{common_prefix, common_suffix}
use Rattle.rules.specs.Record.{ending}
use Rattle.rules.specs.Check.{begins_there, leaves_ending}
use Rattle.rules.proofs.Over.{tail-is}
use Rattle.rules.proofs.Trims.{cp_le_l, cs_le_l}
use Rattle.replays.specs.Proposed.{proposed}

-- two tests of numbers that hold together
eqb_same : (a b c d : ℕ) → (a ≡ b → c ≡ d) → (c ≡ d → a ≡ b) → eqb a b ≡ eqb c d
eqb_same a b c d f g = at (eqb a b) refl
  where
    at : (t : Bool) → eqb a b ≡ t → eqb a b ≡ eqb c d
    at true e = e ∙ sym (eq-eqb c d (f (eqb-true a b e)))
    at false e = e ∙ sym (ne_eqb c d (λ q. eqb-false a b e (g q)))

-- the shared beginning and the shared ending, s and n being what the two calls answer
module _ (R A : List ℕ) (s n : ℕ) (e : s ≡ common_prefix R A) (f : n ≡ common_suffix (take (length R - s) (drop s R)) (take (length A - s) (drop s A))) where
  is-ending : n ≡ ending false (common_prefix R A) R A
  unfolding ending
  is-ending = f ∙ rw (tail-is s R, tail-is s A, e)

  pub ending-within : s + n ≤ length R
  ending-within = omega (arith, cp_le_l R A, cs_le_l (take (length R - s) (drop s R)) (take (length A - s) (drop s A)), length-take (length R - s) (drop s R), length-drop s R)

  pub leaves_by : (number : ℕ) (D put : List ℕ) → number ≡ s + 1 → eqb (number + length D) (length R - n + 1) ≡ (begins_there (proposed number D put) R A && leaves_ending (proposed number D put) R A)
  unfolding begins_there leaves_ending
  leaves_by number D put h =
      let within = ending-within in
      rw (eq-eqb number (common_prefix R A + 1) (omega arith), ← is-ending)
      (eqb_same (number + length D) (length R - n + 1) (number - 1 + length D + n) (length R) (λ q. omega arith) (λ q. omega arith))

pub begins_not : (number : ℕ) (D put R A : List ℕ) (s : ℕ) → s ≡ common_prefix R A → (number ≡ s + 1 → ⊥) → false ≡ (begins_there (proposed number D put) R A && leaves_ending (proposed number D put) R A)
unfolding begins_there
begins_not number D put R A s e h = rw (ne_eqb number (common_prefix R A + 1) (λ q. h (q ∙ ap (◌+ 1) (sym e))))
