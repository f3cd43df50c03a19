-- `names::are_threes` meets its contract. The invariant: what is left tells of the whole.
-- Assumes nothing.
use mathlib.Core.Path.{sym, ap, ◌∙◌}
use mathlib.Core.Bool.{not}
use native.Mathlib.Omega.{arith}
use Rattle.rules.specs.Bytes.{all}
use Rattle.names.specs.Rows.{is_three}
use Rattle.names.proofs.Laws.{threes-stop, threes-more, threes-end}
use Rattle.names.proofs.are_threes.Goals as goal

pub returns-then-is_none : goal.returns-then-is_none
returns-then-is_none c = sym (threes-stop c.args.three.now _ (omega arith) (sym c.row_of_three.ensures.known ∙ c.is_none.ensures ∙ ap not c.if-is_none.true)) ∙ c.loop-i.invariant

pub loop-i-preserved : goal.loop-i-preserved
loop-i-preserved c = sym (threes-more c.args.three.now _ (omega arith) (sym c.row_of_three.ensures.known ∙ c.is_none.ensures ∙ ap not c.if-is_none.false)) ∙ c.loop-i.invariant

pub returns : goal.returns
unfolding all
returns c = sym (ap (all is_three) (threes-end c.args.three.now c.loop-i.i c.requires.three_len (omega arith))) ∙ c.loop-i.invariant
