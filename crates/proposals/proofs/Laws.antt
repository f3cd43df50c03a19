-- Laws of a proposal's two answers, with what the calls answer as variables.
-- Assumes nothing.
use mathlib.Core.Path.{◌≡◌, refl, sym, ◌∙◌}
use mathlib.Core.Bool.{Bool, true, false, ◌&&◌, not, and-true}
use mathlib.Core.List.{List}
use Prim.Native.Nat.{ℕ, ◌+◌, ◌-◌, ◌≤◌, ◌<◌}
use native.Mathlib.Omega.{arith}
use lib.Dec.{eqb, ltb, leb}
use borrow.Author.Tests.{ne_eqb, le-ltb, ltb-true, ltb-false, le-leb, lt-leb, not-true, not-false}
use Rattle.rules.specs.Check.{Proposal, replays, begins_there, leaves_ending, is_shortest}

-- a number from 1 to one more than the residues
module _ (residues number : ℕ) where
  pub number-within : number ≤ residues → not (eqb number 0) ≡ (not (eqb number 0) && not (ltb (residues + 1) number))
  number-within h = sym (rw (le-ltb (residues + 1) number (omega arith)) (and-true (not (eqb number 0))))

  pub number_behind : residues < number → leb (number - residues) 1 ≡ (not (eqb number 0) && not (ltb (residues + 1) number))
  number_behind h = rw (ne_eqb number 0 (λ q. omega arith)) (at (ltb (residues + 1) number) refl)
    where
      at : (t : Bool) → ltb (residues + 1) number ≡ t → leb (number - residues) 1 ≡ not t
      at true e = lt-leb (number - residues) 1 (omega (arith, ltb-true))
      at false e = le-leb (number - residues) 1 (omega (arith, ltb-false))

-- both answers, t being the first
module _ (p : Proposal) (R A : List ℕ) (t : Bool) (first : t ≡ replays p R A) where
  pub both-no : not t ≡ true → (false ≡ replays p R A) × (false ≡ is_shortest p R A)
  unfolding is_shortest
  both-no h = let no = sym first ∙ not-true t h in (sym no, rw no)

  pub first-yes : not t ≡ false → (second : Bool) → second ≡ (begins_there p R A && leaves_ending p R A) → (true ≡ replays p R A) × (second ≡ is_shortest p R A)
  unfolding is_shortest
  first-yes h second e = let yes = sym first ∙ not-false t h in (sym yes, rw yes e)
