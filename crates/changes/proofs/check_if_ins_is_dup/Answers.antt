-- `changes::check_if_ins_is_dup` meets its contract.
-- Assumes nothing.
use mathlib.Core.Path.{◌∙◌}
use Rattle.changes.proofs.Laws.{is_copy_lem, no_copy}
use Rattle.changes.proofs.check_if_ins_is_dup.Goals as goal

pub returns-then-n-number : goal.returns-then-n-number
returns-then-n-number c = let args = c.args in
    c.equals.ensures ∙ is_copy_lem args.r.now args.a.now args.number args.n c.if-n-number.true

pub returns-else-n-number : goal.returns-else-n-number
returns-else-n-number c = let args = c.args in
    no_copy args.r.now args.a.now args.number args.n c.if-n-number.false
