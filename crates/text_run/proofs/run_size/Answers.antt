-- `text_run::run_size` meets its contract. Assumes nothing.
use Rattle.text_run.proofs.Counting.{unfit, ends_above, ends-within}
use Rattle.text_run.proofs.run_size.Goals as goal

pub returns-in_default : goal.returns-in_default
returns-in_default c = unfit _ _ c.in_default.ensures.too_many

pub returns-then-most-counted : goal.returns-then-most-counted
returns-then-most-counted c = ends_above _ _ _ _ _ _ _ c.in-Some.ensures.counted _ c.last_size-last.ensures c.if-most-counted.true

pub returns : goal.returns
returns c = ends-within _ _ _ _ _ _ _ c.in-Some.ensures.counted _ c.last_size-last.ensures c.if-most-counted.false
