-- `spaced` and `reference_line` from what the parsers below answer.
-- Assumes nothing.
use Rattle.std.specs.Prelude.{None, Some}
use Rattle.std.specs.Prelude.{Option as Returned}
use mathlib.Core.Path.{◌≡◌, sym, ap, ◌∙◌}
use mathlib.Core.Bool.{Bool, true, false}
use mathlib.Core.List.{List}
use mathlib.Core.Option.{none}
use Prim.Native.Nat.{ℕ, ◌+◌, ◌-◌, ◌≤◌, ◌<◌}
use native.Mathlib.Numerals.{add-one}
use borrow.Author.Tests.{eq-eqb, ne_eqb}
use lib.ListN.{length, take, drop, get_or, drop_of_length-le}
use lib.Seq.{drop-cons}
use Rattle.rules.specs.Bytes.{bytes}
use Rattle.rules.specs.Number.{number}
use Rattle.rules.specs.Reference.{at_stop}
use Rattle.rules.specs.Views.{cds_of}
use Rattle.rules.specs.Line.{are_capitals, starts_with, behind_space, spaced, behind_ref, reference_line}
use Rattle.rules.proofs.Over.{tail-is}
use Rattle.text_numbers.specs.declared.NumberAt.{NumberAt}
use Rattle.text_numbers.specs.Views.{number_in}
use Rattle.text_forms.specs.Views.{reference_line_in}

module _ (line : List ℕ) (at : ℕ) (r : Returned NumberAt) (q : number_in line r ≡ number (drop at line)) where
  pub spaced-not : r ≡ None → none ≡ spaced (drop at line)
  unfolding spaced
  spaced-not e = rw (← q, e)

  module _ (n : NumberAt) (e : r ≡ Some n) where
    pub spaced-end : length line ≤ n.next → none ≡ spaced (drop at line)
    unfolding spaced behind_space
    spaced-end h = rw (← q, e, drop_of_length-le line {i = n.next} h)

    pub spaced-other : n.next < length line → (get_or line n.next 0 ≡ 32 → ⊥) → none ≡ spaced (drop at line)
    unfolding spaced behind_space
    spaced-other h k = rw (← q, e, drop-cons line n.next 0 h) (simp (ne_eqb _ _ k))

    pub spaced-is : n.next < length line → get_or line n.next 0 ≡ 32 → number_in line (Some (record { value = n.value; next = n.next + 1 })) ≡ spaced (drop at line)
    unfolding spaced behind_space
    spaced-is h k = rw (← q, e, add-one, drop-cons line n.next 0 h) (simp (eq-eqb _ _ k))

-- `ref CS CE TABLE LETTERS`, part by part
module _ (line : List ℕ) (u : Bool) (q : u ≡ starts_with (bytes "ref ") line) where
  pub reference-not : u ≡ false → none ≡ reference_line line
  unfolding reference_line behind_ref
  reference-not e = rw (← q, e)

  module _ (e : u ≡ true) (r₁ : Returned NumberAt) (q₁ : number_in line r₁ ≡ spaced (drop 4 line)) where
    pub reference-no-cs : r₁ ≡ None → none ≡ reference_line line
    unfolding reference_line behind_ref
    reference-no-cs e₁ = rw (← q, e, ← q₁, e₁)

    module _ (cs : NumberAt) (e₁ : r₁ ≡ Some cs) (r₂ : Returned NumberAt) (q₂ : number_in line r₂ ≡ spaced (drop cs.next line)) where
      pub reference-no-ce : r₂ ≡ None → none ≡ reference_line line
      unfolding reference_line behind_ref
      reference-no-ce e₂ = rw (← q, e, ← q₁, e₁, ← q₂, e₂)

      module _ (ce : NumberAt) (e₂ : r₂ ≡ Some ce) (r₃ : Returned NumberAt) (q₃ : number_in line r₃ ≡ spaced (drop ce.next line)) where
        pub reference-no-table : r₃ ≡ None → none ≡ reference_line line
        unfolding reference_line behind_ref
        reference-no-table e₃ = rw (← q, e, ← q₁, e₁, ← q₂, e₂, ← q₃, e₃)

        module _ (t : NumberAt) (e₃ : r₃ ≡ Some t) (v : Bool) (z : v ≡ are_capitals (take (length line - t.next) (drop t.next line))) where
          capitals : are_capitals (drop t.next line) ≡ v
          capitals = sym (z ∙ ap are_capitals (tail-is t.next line))

          pub reference-no-letters : v ≡ false → none ≡ reference_line line
          unfolding reference_line behind_ref
          reference-no-letters e₄ = rw (← q, e, ← q₁, e₁, ← q₂, e₂, ← q₃, e₃, capitals, e₄)

          pub reference-is : v ≡ true → reference_line_in line (Some (record { cds = cds_of cs.value ce.value t.value at_stop; at = t.next })) ≡ reference_line line
          unfolding reference_line behind_ref
          reference-is e₄ = rw (← q, e, ← q₁, e₁, ← q₂, e₂, ← q₃, e₃, capitals, e₄)
