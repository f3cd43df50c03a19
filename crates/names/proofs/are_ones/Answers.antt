-- `names::are_ones` meets its contract. The invariant: what is left tells of the whole.
-- Assumes nothing.
use mathlib.Core.Path.{sym, ap, ◌∙◌}
use mathlib.Core.Bool.{not}
use native.Mathlib.Omega.{arith}
use Rattle.rules.proofs.Lists.{all_more, all-stop, all_end}
use Rattle.names.specs.Rows.{is_one}
use Rattle.names.proofs.are_ones.Goals as goal

pub returns-then-is_none : goal.returns-then-is_none
returns-then-is_none c = sym (all-stop is_one c.args.one.now _ (omega arith) (sym c.row_of_one.ensures.known ∙ c.is_none.ensures ∙ ap not c.if-is_none.true)) ∙ c.loop-i.invariant

pub loop-i-preserved : goal.loop-i-preserved
loop-i-preserved c = sym (all_more is_one c.args.one.now _ (omega arith) (sym c.row_of_one.ensures.known ∙ c.is_none.ensures ∙ ap not c.if-is_none.false)) ∙ c.loop-i.invariant

pub returns : goal.returns
returns c = sym (all_end _ c.args.one.now _ (omega arith)) ∙ c.loop-i.invariant
