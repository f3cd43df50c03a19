-- Laws of what is decided of an edit, by its tests.
-- Assumes nothing.
use Rattle.std.specs.Prelude.{Option, Some, None, if◌then◌else◌}
use mathlib.Core.Path.{◌≡◌, refl, sym}
use mathlib.Core.Bool.{Bool, true, false, ◌||◌}
use Prim.Native.Nat.{ℕ, ◌≤◌}
use native.Mathlib.Omega.{arith}
use Rattle.rules.specs.Bytes.{first_number, given, refused, unless}
use Rattle.rules.specs.Reference.{Reference}
use Rattle.rules.specs.Refusals.{refusal_number}
use Rattle.rules.specs.declared.Refusal.{Refusal}
use Rattle.rules.specs.Edit.{Asked, ends_past, edit_tests}
use Rattle.reference.proofs.Judging.{was-refused, was-given, told-refused}
use Rattle.edits.specs.Plans.{plan_of}
use Rattle.edits.specs.declared.plans.Plan.{Plan}
use Rattle.edits.specs.Decisions.{decision_of}

-- which it is that isn't refused
at-none : (u : Bool) (p : Plan) → None ≡ (if u then None else Some p) → u ≡ true
at-none true p h = refl
at-none false p h = let z : ◌≡◌ {A = ℕ} 0 1 = cc in absurd (omega arith)

at-some : (u : Bool) (p q : Plan) → Some q ≡ (if u then None else Some p) → (u ≡ false) × (p ≡ q)
at-some true p q h = let z : ◌≡◌ {A = ℕ} 0 1 = cc in absurd (omega arith)
at-some false p q h = (refl, cc)

module _ (most : ℕ) (several : Bool) (r : Reference) (a : Asked) where
  abbrev all : Option Plan
  all = if several || ends_past r a then None else Some (plan_of r a)

  pub decides-refusal : (x : Refusal) → refusal_number x ≡ first_number (edit_tests most r a) → refused (refusal_number x) ≡ decision_of most several r a
  unfolding decision_of
  decides-refusal x is = told-refused x (first_number (edit_tests most r a)) all is

  module _ (none : first_number (edit_tests most r a) ≡ 0) (past : Bool) (is : past ≡ ends_past r a) where
    pub decides-unknown : (several || past) ≡ true → given None ≡ decision_of most several r a
    unfolding decision_of unless
    decides-unknown h = rw (none, ← is, h)

    pub decides-plan : (several || past) ≡ false → (plan : Plan) → plan ≡ plan_of r a → given (Some plan) ≡ decision_of most several r a
    unfolding decision_of unless
    decides-plan h plan q = rw (none, ← is, h, q)

  -- and back
  pub decided-refusal : (n : ℕ) → decision_of most several r a ≡ refused n → (first_number (edit_tests most r a) ≡ n) × (1 ≤ n)
  unfolding decision_of
  decided-refusal n h =
      let was = was-refused (first_number (edit_tests most r a)) n all (sym h) in
      (was.0, omega (arith, was.1))

  pub decided-unknown : decision_of most several r a ≡ given None → (first_number (edit_tests most r a) ≡ 0) × ((several || ends_past r a) ≡ true)
  unfolding decision_of
  decided-unknown h =
      let was = was-given (first_number (edit_tests most r a)) all None (sym h) in
      (was.0, at-none (several || ends_past r a) (plan_of r a) was.1)

  pub decided-plan : (p : Plan) → decision_of most several r a ≡ given (Some p) → (first_number (edit_tests most r a) ≡ 0) × ((several || ends_past r a) ≡ false) × (plan_of r a ≡ p)
  unfolding decision_of
  decided-plan p h =
      let was = was-given (first_number (edit_tests most r a)) all (Some p) (sym h) in
      let goes = at-some (several || ends_past r a) (plan_of r a) p was.1 in
      (was.0, goes.0, goes.1)
