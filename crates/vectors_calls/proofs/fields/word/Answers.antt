-- Assumes nothing.
use mathlib.Core.Path.{◌≡◌, ap, ◌∙◌}
use Prim.Native.Nat.{ℕ, ◌-◌}
use native.Mathlib.Omega.{arith}
use mathlib.Core.List.{List}
use lib.ListN.{take}
use Rattle.vectors_calls.specs.Fields.{before, word_at}
use Rattle.vectors_calls.proofs.fields.word.Goals as goal

pub returns : goal.returns
unfolding word_at
returns c = let f = c.field-f.result.now in
    let end : c.end_of-end.result - 0 ≡ before 32 f = omega (arith, c.end_of-end.ensures.value) in
    ap (λ (n : ℕ). take n f) end ∙ ap (λ (f : List ℕ). take (before 32 f) f) c.field-f.ensures
