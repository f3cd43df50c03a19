-- `text_numbers::value_of` meets its contract. The invariant: the value so far, with what is left, is the whole's; so it is below 100,000.
use mathlib.Core.Path.{refl, sym, ◌∙◌}
use native.Mathlib.Omega.{arith}
use Rattle.rules.specs.Number.{is_digit, value}
use Rattle.rules.proofs.Lists.{all_at}
use Rattle.text_numbers.proofs.Numbers.{digit_low, value-more, value-end, value-fits, next_fits}
use Rattle.text_numbers.proofs.value_of.Goals as goal

pub loop-b-init : goal.loop-b-init
unfolding value
loop-b-init c = refl

pub overflow_mul-v : goal.overflow_mul-v
overflow_mul-v c = omega (arith, value-fits _ c.loop-b.b-index _ c.requires.s_len_bound c.requires.s_value c.loop-b.invariant)

pub overflow_sub-b : goal.overflow_sub-b
overflow_sub-b c = digit_low _ (all_at is_digit _ _ c.requires.s_value c.loop-b-test.true)

pub overflow_add-v : goal.overflow_add-v
overflow_add-v c = omega (arith, next_fits _ _ _ c.requires.s_len_bound c.requires.s_value c.loop-b-test.true c.loop-b.invariant)

pub loop-b-preserved : goal.loop-b-preserved
loop-b-preserved c = rw c.from.ensures (c.loop-b.invariant ∙ value-more _ _ _ c.loop-b-test.true)

pub returns : goal.returns
returns c = sym (c.loop-b.invariant ∙ value-end _ c.loop-b.b-index _ c.loop-b-test.false)
