-- `text_gather::put` meets its contract. Assumes nothing.
use mathlib.Core.Path.{refl}
use Rattle.rules.proofs.Fills.{refuses, gives}
use Rattle.rules.proofs.Over.{copied_as}
use Rattle.text_gather.proofs.Puts.{within-fits, within-not}
use Rattle.text_gather.proofs.put.Goals as goal

pub returns-then-out-s : goal.returns-then-out-s
returns-then-out-s c =
    let whole = refuses _ 15 _ (within-not _ _ c.if-out-s.true) in
    record { value = whole.0; out_after = whole.1 }

pub returns : goal.returns
returns c =
    let copy = c.copy in
    let whole = gives _ _ _ _ _ (within-fits _ _ c.if-out-s.false) copy.ensures.count (copied_as _ _ _ _ refl copy.ensures.after) in
    record { value = whole.0; out_after = whole.1 }
