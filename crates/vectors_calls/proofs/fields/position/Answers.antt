-- Assumes nothing.
use mathlib.Core.Path.{◌≡◌, ap, ◌∙◌}
use Prim.Native.Nat.{ℕ}
use lib.ListN.{drop}
use Rattle.text_forms.specs.Views.{signs, signed}
use Rattle.vectors_calls.specs.Fields.{number_in, position_in}
use Rattle.vectors_calls.proofs.fields.position.Goals as goal

pub returns : goal.returns
unfolding position_in
returns c = let f = c.field-f.result.now in
    let n : c.number_from-n.result ≡ number_in (drop (signs c.byte_at-sign.result) f) = c.number_from-n.ensures ∙ ap (λ (k : ℕ). number_in (drop k f)) c.signs_of.ensures in
    c.signed_by.ensures ∙ ap (signed c.byte_at-sign.result) n ∙ ap (λ (b : ℕ). signed b (number_in (drop (signs b) f))) c.byte_at-sign.ensures ∙ ap position_in c.field-f.ensures
