-- The invariant: the field asked for is so many fields behind the place. Assumes nothing.
use mathlib.Core.Path.{◌≡◌, sym, ap, ◌∙◌}
use Prim.Native.Nat.{ℕ}
use native.Mathlib.Omega.{arith}
use lib.ListN.{drop}
use Rattle.vectors_calls.specs.Fields.{field_at}
use Rattle.vectors_calls.proofs.Lines.{field_next, field_first}
use Rattle.vectors_calls.proofs.fields.field_start.Goals as goal

pub loop-left-preserved : goal.loop-left-preserved
loop-left-preserved c = (omega (arith, c.behind-at.ensures), sym (field_next c.loop-left.left c.loop-left.at c.end_of.result c.behind-at.result c.args.s.now c.loop-left-test.true c.end_of.ensures.value c.behind-at.ensures) ∙ c.loop-left.invariant.1)

pub returns : goal.returns
returns c = let s = c.args.s.now in
    let none : 0 ≡ c.loop-left.left = omega (arith, c.loop-left-test.false) in
    record { s_value = sym (field_first (drop c.loop-left.at s)) ∙ ap (λ (n : ℕ). field_at n (drop c.loop-left.at s)) none ∙ c.loop-left.invariant.1; within = c.loop-left.invariant.0 }
