-- Assumes nothing.
use mathlib.Core.Path.{ap, ◌∙◌}
use Prim.Native.Nat.{ℕ}
use lib.ListN.{get_or}
use Rattle.vectors_calls.specs.Fields.{kind_by, kind_in}
use Rattle.vectors_calls.proofs.fields.kind.Goals as goal

pub returns : goal.returns
unfolding kind_in
returns c = let f = c.field-f.result.now in
    c.kind_by.ensures ∙ ap (λ (b : ℕ). kind_by b c.byte_at-2.result) c.byte_at.ensures ∙ ap (kind_by (get_or f 2 0)) c.byte_at-2.ensures ∙ ap kind_in c.field-f.ensures
