-- The invariant: the number so far, with the digits to come, is the whole's. Assumes nothing.
use mathlib.Core.Path.{◌≡◌, sym, ap, ◌∙◌}
use Prim.Native.Nat.{ℕ, ◌+◌, ◌-◌}
use native.Mathlib.Omega.{arith}
use borrow.Author.Tests.{not-true, not-false}
use lib.ListN.{drop, get_or}
use Rattle.vectors_calls.specs.Fields.{with_digit, number_from, number_in}
use Rattle.vectors_calls.proofs.Lines.{digit_low, digit_high, number_more, number-stop, number-end}
use mathlib.Core.Bool.{not}
use Rattle.vectors_calls.proofs.fields.number_from.Goals as goal

pub returns-then-not-is_digit : goal.returns-then-not-is_digit
unfolding number_in
returns-then-not-is_digit c = sym (number-stop c.loop-i.n c.args.s.now c.loop-i.i c.loop-i-test.true (sym c.is_digit.ensures ∙ not-true _ (ap not c.if-not-is_digit.true))) ∙ c.loop-i.invariant

pub overflow_sub-b : goal.overflow_sub-b
overflow_sub-b c = digit_low _ (sym c.is_digit.ensures ∙ not-false _ (ap not c.if-not-is_digit.false))

pub with_digit-n-requires : goal.with_digit-n-requires
with_digit-n-requires c = omega (arith, c.from.ensures, digit_high _ (sym c.is_digit.ensures ∙ not-false _ (ap not c.if-not-is_digit.false)))

pub loop-i-preserved : goal.loop-i-preserved
loop-i-preserved c = let b = get_or c.args.s.now c.loop-i.i 0 in
    let next : c.with_digit-n.result ≡ with_digit c.loop-i.n (b - 48) = c.with_digit-n.ensures ∙ ap (with_digit c.loop-i.n) c.from.ensures in
    let more = number_more c.loop-i.n c.args.s.now c.loop-i.i c.loop-i-test.true (sym c.is_digit.ensures ∙ not-false _ (ap not c.if-not-is_digit.false)) in
    ap (λ (n : ℕ). number_from n (drop (c.loop-i.i + 1) c.args.s.now)) next ∙ sym more ∙ c.loop-i.invariant

pub returns : goal.returns
unfolding number_in
returns c = sym (number-end c.loop-i.n c.args.s.now c.loop-i.i c.loop-i-test.false) ∙ c.loop-i.invariant
