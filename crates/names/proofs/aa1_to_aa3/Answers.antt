-- `names::aa1_to_aa3` meets its contract: one law for each way out.
-- Assumes nothing.
use mathlib.Core.Path.{sym, ◌∙◌}
use borrow.Author.Rules.{rules}
use Rattle.rules.proofs.Fills.{refuses, gives}
use Rattle.names.proofs.Laws.{ones-unknown, ones-short, ones-given}
use Rattle.names.proofs.aa1_to_aa3.Goals as goal

pub returns-then-not-are_ones : goal.returns-then-not-are_ones
returns-then-not-are_ones c = let whole = refuses _ _ _ (ones-unknown _ _ (sym c.are_ones.ensures ∙ c.if-not-are_ones.true)) in
    record { value = whole.0; out_after = whole.1 }

pub returns-then-out-one : goal.returns-then-out-one
returns-then-out-one c = let whole = refuses _ _ _ (ones-short _ _ (sym c.are_ones.ensures ∙ c.if-not-are_ones.false) (search rules)) in
    record { value = whole.0; out_after = whole.1 }

pub returns : goal.returns
returns c = let given = ones-given _ _ (sym c.are_ones.ensures ∙ c.if-not-are_ones.false) c.if-out-one.false in
    let whole = gives _ _ _ _ _ given.0 given.1 c.write_threes.ensures in
    record { value = whole.0; out_after = whole.1 }
