-- `editions::compare` meets its contract. Assumes nothing.
use lib.ListN.{length}
use Rattle.rules.specs.Refusal.{limits}
use Rattle.rules.specs.Editions.{compared}
use Rattle.rules.proofs.Fills.{refuses}
use Rattle.alike.specs.Reading.{edition_of}
use Rattle.editions.proofs.Comparing.{first-refused, second-refused, neither-refused, fits-of, judged-refused, judged-clear}
use Rattle.editions.proofs.compare.Goals as goal

pub list_differences-requires : goal.list_differences-requires
list_differences-requires c =
    let a = c.args in
    record { fits = fits-of a.first.now a.r (judged-clear a.first.now a.r _ c.in-Ok.ensures); second_fits = fits-of a.second.now a.s (judged-clear a.second.now a.s _ c.in-Ok-judge_reference.ensures) }

pub returns-in-Err : goal.returns-in-Err
returns-in-Err c =
    let a = c.args in
    let R = edition_of a.first.now a.r in
    let S = edition_of a.second.now a.s in
    let refused = judged-refused a.first.now a.r _ c.in-Err.ensures in
    let whole = refuses (compared limits.longest R S (length a.out.now)) _ a.out.now (first-refused limits.longest R S (length a.out.now) _ refused.0 refused.1) in
    record { answer = whole.0; written = whole.1 }

pub returns-in-Err-judge_reference : goal.returns-in-Err-judge_reference
returns-in-Err-judge_reference c =
    let a = c.args in
    let R = edition_of a.first.now a.r in
    let S = edition_of a.second.now a.s in
    let refused = judged-refused a.second.now a.s _ c.in-Err-judge_reference.ensures in
    let whole = refuses (compared limits.longest R S (length a.out.now)) _ a.out.now
    (second-refused limits.longest R S (length a.out.now) _ (judged-clear a.first.now a.r _ c.in-Ok.ensures) refused.0 refused.1) in
    record { answer = whole.0; written = whole.1 }

pub returns-in-Ok-judge_reference : goal.returns-in-Ok-judge_reference
returns-in-Ok-judge_reference c =
    let a = c.args in
    rw (neither-refused limits.longest (edition_of a.first.now a.r) (edition_of a.second.now a.s) (length a.out.now) (judged-clear a.first.now a.r _ c.in-Ok.ensures) (judged-clear a.second.now a.s _ c.in-Ok-judge_reference.ensures)) (record { answer = c.list_differences.ensures.answer; written = c.list_differences.ensures.written })
