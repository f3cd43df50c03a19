-- `sequences::complement::revcomp` meets its contract: one law for each way out.
use mathlib.Core.Path.{sym, ◌∙◌}
use borrow.Author.Rules.{rules}
use Rattle.rules.proofs.Complement.{length-complement}
use Rattle.rules.proofs.Fills.{refuses, gives}
use Rattle.sequences.proofs.complement.Laws.{complement-short, complement-other, complement-given}
use Rattle.sequences.proofs.complement.revcomp.Goals as goal

pub returns-then-out-seq : goal.returns-then-out-seq
returns-then-out-seq c = let whole = refuses _ _ _ (complement-short _ _ (search rules)) in
    record { value = whole.0; out_after = whole.1 }

pub returns-then-not-all_letters : goal.returns-then-not-all_letters
returns-then-not-all_letters c = let whole = refuses _ _ _ (complement-other _ _ (search rules) (sym c.all_letters.ensures ∙ c.if-not-all_letters.true)) in
    record { value = whole.0; out_after = whole.1 }

pub returns : goal.returns
returns c =
    let known = sym c.all_letters.ensures ∙ c.if-not-all_letters.false in
    let whole = gives _ _ _ _ _ (complement-given _ _ (search rules) known) (sym (length-complement _)) c.write_revcomp.ensures in
    record { value = whole.0; out_after = whole.1 }
