-- `edit_line` from what the parsers below answer.
-- Assumes nothing.
use Rattle.std.specs.Prelude.{None, Some}
use Rattle.std.specs.Prelude.{Option as Returned}
use mathlib.Core.Path.{◌≡◌}
use mathlib.Core.List.{List}
use mathlib.Core.Option.{none}
use Prim.Native.Nat.{ℕ}
use lib.ListN.{drop}
use Rattle.rules.specs.Line.{verb, range, edit_line}
use Rattle.text_verbs.specs.declared.VerbAt.{VerbAt}
use Rattle.text_verbs.specs.Views.{verb_in}
use Rattle.text_forms.specs.declared.position.RangeAt.{RangeAt}
use Rattle.text_forms.specs.Views.{range_in, edit_line_in}

-- the edit, from its range and its verb
module _ (line : List ℕ) (r : Returned RangeAt) (q : range_in line r ≡ range line) where
  pub edit-no-range : r ≡ None → none ≡ edit_line line
  unfolding edit_line
  edit-no-range e = rw (← q, e)

  module _ (g : RangeAt) (e : r ≡ Some g) (v : Returned VerbAt) (z : verb_in line v ≡ verb (drop g.next line)) where
    pub edit-no-verb : v ≡ None → none ≡ edit_line line
    unfolding edit_line
    edit-no-verb e₂ = rw (← q, e, ← z, e₂)

    pub edit-is : (w : VerbAt) → v ≡ Some w → edit_line_in line (Some (record { edit = record { kind = w.kind; start = g.start; end = g.end }; at = w.at })) ≡ edit_line line
    unfolding edit_line
    edit-is w e₂ = rw (← q, e, ← z, e₂)
