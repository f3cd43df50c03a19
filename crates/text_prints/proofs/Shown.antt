-- The cases of the words that depend on what they show.
-- Assumes nothing.
use mathlib.Core.Path.{◌≡◌, refl}
use mathlib.Core.List.{List, [], ◌∷◌, ◌++◌}
use Prim.Native.Nat.{ℕ}
use native.Mathlib.Omega.{arith}
use lib.ListN.{length}
use borrow.Author.Tests.{eq-eqb, ne_eqb}
use Rattle.rules.specs.Bytes.{bytes}
use Rattle.rules.specs.Run.{decimal, shown, shown_first}

pub shown_none : (s : List ℕ) → length s ≡ 0 → shown s ≡ bytes "-"
unfolding shown
shown_none [] h = refl
shown_none (x ∷ s) h = absurd (omega arith)

pub shown_some : (s : List ℕ) → (length s ≡ 0 → ⊥) → shown s ≡ s
unfolding shown
shown_some [] h = absurd (h refl)
shown_some (x ∷ s) h = refl

pub first-none : (n : ℕ) → n ≡ 0 → shown_first n ≡ []
unfolding shown_first
first-none n h = rw (eq-eqb n 0 h)

pub first_some : (n : ℕ) → (n ≡ 0 → ⊥) → shown_first n ≡ bytes " " ++ decimal n
unfolding shown_first
first_some n h = rw (ne_eqb n 0 h)
