-- `changes::first_copied` meets its contract.
-- Assumes nothing.
use mathlib.Core.Path.{◌≡◌, refl}
use Prim.Native.Nat.{ℕ}
use Rattle.rules.specs.declared.Class.{Class}
use Rattle.rules.specs.declared.Class.TheVariants.{StartLost, Extension, StopGained, Frameshift, Substitution, Deletion, Duplication, Insertion, Delins}
use Rattle.rules.specs.Record.{first_copied}
use Rattle.changes.proofs.first_copied.Goals as goal

other : (k : Class) (number n : ℕ) → (k ≡ Duplication → ⊥) → 0 ≡ first_copied k number n
unfolding first_copied
other StartLost number n h = refl
other Extension number n h = refl
other StopGained number n h = refl
other Frameshift number n h = refl
other Substitution number n h = refl
other Deletion number n h = refl
other Duplication number n h = absurd (h refl)
other Insertion number n h = refl
other Delins number n h = refl

pub returns-in-Duplication : goal.returns-in-Duplication
unfolding first_copied
returns-in-Duplication c = rw c.in-Duplication.is

pub returns-in_default : goal.returns-in_default
returns-in_default c = other c.args.class c.args.number c.args.n c.in_default.not-Duplication
