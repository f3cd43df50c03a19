-- Assumes nothing.
use mathlib.Core.Path.{ap, ◌∙◌}
use Prim.Native.Nat.{ℕ}
use mathlib.Core.List.{List}
use lib.ListN.{drop}
use Rattle.vectors_calls.specs.Fields.{number_in, number_at}
use Rattle.vectors_calls.proofs.fields.number.Goals as goal

pub returns : goal.returns
unfolding number_at
returns c = c.number_from.ensures ∙ ap (λ (s : List ℕ). number_in (drop 0 s)) c.field.ensures
