-- `garumbott::plain::garumbott_translate` meets its contract. Assumes nothing.
use mathlib.Core.Path.{◌∙◌}
use lib.ListN.{length}
use Rattle.garumbott.specs.Host.{is_set}
use Rattle.garumbott.proofs.Excepted.{translation_given, none-given}
use Rattle.garumbott.proofs.plain.garumbott_translate.Goals as goal

pub returns-then-exceptions-eq0 : goal.returns-then-exceptions-eq0
returns-then-exceptions-eq0 c =
    let a = c.args in
    let t = c.translate_cds in
    let none = none-given a.exceptions.now c.if-exceptions-eq0.true in
    record { value = rw (c.from.ensures, t.ensures.answer, none); out_after = t.ensures.written ∙ rw none }

pub returns : goal.returns
returns c =
    let a = c.args in
    let t = c.translate_cds_with_exceptions in
    let same = translation_given a.table (is_set a.full) a.seq.now (length a.out.now) a.exceptions.now in
    record { value = rw (c.from-2.ensures, t.ensures.answer, c.exceptions_in-e.ensures, same); out_after = t.ensures.written ∙ rw (c.exceptions_in-e.ensures, same) }
