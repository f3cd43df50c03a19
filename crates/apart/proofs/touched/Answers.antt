-- `apart::touched` meets its contract. Assumes nothing.
use Rattle.apart.proofs.Ranges.{gap_from, gap-to, range-from, range-to}
use Rattle.apart.proofs.touched.Goals as goal

pub returns-then-is_insertion : goal.returns-then-is_insertion
returns-then-is_insertion c =
    let a = c.args in
    let is = c.is_insertion in
    let set = c.setup_incorporate-range in
    record { start_by_index = λ s new long. gap_from a.c a.len a.edit is.result is.ensures s new long c.if-is_insertion.true set.result.start set.ensures.start_index; end_by_index = λ s new long. gap-to a.c a.len a.edit is.result is.ensures s new long c.if-is_insertion.true set.result.start set.ensures.start_index }

pub returns : goal.returns
returns c =
    let a = c.args in
    let is = c.is_insertion in
    let set = c.setup_incorporate-range in
    record { start_by_index = λ s new long. range-from a.c a.len a.edit is.result is.ensures s new long c.if-is_insertion.false set.result.start set.ensures.start_index; end_by_index = λ s new long. range-to a.c a.len a.edit is.result is.ensures s new long c.if-is_insertion.false set.result.end set.ensures.end_index }
