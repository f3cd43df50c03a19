-- The invariant: what is left tells of the whole. Assumes nothing.
use mathlib.Core.Path.{sym, ◌∙◌}
use borrow.Author.Tests.{eq-eqb, ne_eqb}
use Rattle.rules.proofs.Lists.{all_more, all-stop, all_end}
use Rattle.vectors_calls.specs.Printed.{is_marker, are_markers}
use Rattle.vectors_calls.proofs.printing.keeps.Goals as goal

pub returns-then-s-i-ne46 : goal.returns-then-s-i-ne46
unfolding are_markers
returns-then-s-i-ne46 c = sym (all-stop is_marker c.args.s.now c.loop-i.i c.loop-i-test.true (ne_eqb _ _ c.if-s-i-ne46.true)) ∙ c.loop-i.invariant

pub loop-i-preserved : goal.loop-i-preserved
loop-i-preserved c = sym (all_more is_marker c.args.s.now c.loop-i.i c.loop-i-test.true (eq-eqb _ _ c.if-s-i-ne46.false)) ∙ c.loop-i.invariant

pub returns : goal.returns
unfolding are_markers
returns c = sym (all_end is_marker c.args.s.now c.loop-i.i c.loop-i-test.false) ∙ c.loop-i.invariant
