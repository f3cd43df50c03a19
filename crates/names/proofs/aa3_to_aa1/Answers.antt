-- `names::aa3_to_aa1` meets its contract: one law for each way out.
-- Assumes nothing.
use mathlib.Core.Path.{sym, ◌∙◌}
use borrow.Author.Rules.{rules}
use Rattle.rules.proofs.Fills.{refuses, gives}
use Rattle.names.proofs.Laws.{threes-uneven, threes-unknown, threes-short, threes-given}
use Rattle.names.proofs.aa3_to_aa1.Goals as goal

pub returns-then-three-ne0 : goal.returns-then-three-ne0
returns-then-three-ne0 c = let whole = refuses _ _ _ (threes-uneven _ _ c.if-three-ne0.true) in
    record { value = whole.0; out_after = whole.1 }

pub returns-then-not-are_threes : goal.returns-then-not-are_threes
returns-then-not-are_threes c = let whole = refuses _ _ _ (threes-unknown _ _ (search rules) (sym c.are_threes.ensures ∙ c.if-not-are_threes.true)) in
    record { value = whole.0; out_after = whole.1 }

pub returns-then-out-three : goal.returns-then-out-three
returns-then-out-three c = let whole = refuses _ _ _ (threes-short _ _ (search rules) (sym c.are_threes.ensures ∙ c.if-not-are_threes.false) (search rules)) in
    record { value = whole.0; out_after = whole.1 }

pub returns : goal.returns
returns c = let given = threes-given _ _ c.if-three-ne0.false (sym c.are_threes.ensures ∙ c.if-not-are_threes.false) c.if-out-three.false in
    let whole = gives _ _ _ _ _ given.0 given.1 c.write_ones.ensures in
    record { value = whole.0; out_after = whole.1 }
