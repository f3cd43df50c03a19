-- `parts::late::end_refusal` meets its contract. Assumes nothing.
use Rattle.std.specs.Prelude.{if◌then◌else◌}
use mathlib.Core.Path.{ap}
use mathlib.Core.Bool.{Bool}
use Rattle.rules.specs.Views.{reference_of}
use Rattle.reference.proofs.Cut.{end-six, end-twenty-eight}
use Rattle.parts.specs.Parts.{in_parts}
use Rattle.parts.proofs.late.end_refusal.Goals as goal

pub returns-then-ends_in_stop : goal.returns-then-ends_in_stop
returns-then-ends_in_stop c =
    let a = c.args in
    end-six (reference_of (in_parts a.a.now a.b.now a.c.now) a.cds a.e) c.ends_in_stop.result c.if-cds-eq0.true c.ends_in_stop.ensures _ (ap (λ (t : Bool). if t then 0 else 6) c.if-ends_in_stop.true)

pub returns-then-cds-eq0 : goal.returns-then-cds-eq0
returns-then-cds-eq0 c =
    let a = c.args in
    end-six (reference_of (in_parts a.a.now a.b.now a.c.now) a.cds a.e) c.ends_in_stop.result c.if-cds-eq0.true c.ends_in_stop.ensures _ (ap (λ (t : Bool). if t then 0 else 6) c.if-ends_in_stop.false)

pub returns-then-is_cut_short : goal.returns-then-is_cut_short
returns-then-is_cut_short c =
    let a = c.args in
    end-twenty-eight (reference_of (in_parts a.a.now a.b.now a.c.now) a.cds a.e) c.is_cut_short.result c.if-cds-eq0.false c.is_cut_short.ensures _ (ap (λ (t : Bool). if t then 0 else 28) c.if-is_cut_short.true)

pub returns : goal.returns
returns c =
    let a = c.args in
    end-twenty-eight (reference_of (in_parts a.a.now a.b.now a.c.now) a.cds a.e) c.is_cut_short.result c.if-cds-eq0.false c.is_cut_short.ensures _ (ap (λ (t : Bool). if t then 0 else 28) c.if-is_cut_short.false)
