-- `edits::plans::insert` meets its contract. Assumes nothing.
use Rattle.rules.specs.Reference.{size}
use Rattle.rules.specs.Views.{bare}
use Rattle.edits.proofs.Planning.{inserts-plan}
use Rattle.edits.proofs.plans.insert.Goals as goal

pub returns : goal.returns
unfolding size
returns c =
    let a = c.args in
    λ s bases d e goes h k. rw (← goes.long, ← goes.many) (inserts-plan (bare s d) e a.range a.source a.at bases h a.cut a.number goes.cuts k)
