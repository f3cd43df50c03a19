-- `parts::late::is_cut_short` meets its contract. Assumes nothing.
use mathlib.Core.Path.{sym}
use native.Mathlib.Omega.{arith}
use Rattle.parts.specs.Parts.{in_parts}
use Rattle.parts.proofs.Places.{length-parts, small}
use Rattle.parts.proofs.Judged.{not-cut-short, cut_short_lem}
use Rattle.parts.proofs.late.is_cut_short.Goals as goal

pub overflow_add-a : goal.overflow_add-a
overflow_add-a c =
    let a = c.args in
    omega (arith, length-parts a.a.now a.b.now a.c.now, small (in_parts a.a.now a.b.now a.c.now) a.cds a.e c.requires)

pub returns-then-is_short_end-cds : goal.returns-then-is_short_end-cds
returns-then-is_short_end-cds c =
    let a = c.args in
    not-cut-short (in_parts a.a.now a.b.now a.c.now) a.cds a.e c.requires _ c.is_short_end.ensures _ (sym (length-parts a.a.now a.b.now a.c.now)) c.if-is_short_end-cds.true

pub returns : goal.returns
returns c =
    let a = c.args in
    cut_short_lem (in_parts a.a.now a.b.now a.c.now) a.cds a.e c.requires _ c.is_short_end.ensures _ (sym (length-parts a.a.now a.b.now a.c.now)) c.if-is_short_end-cds.false c.has_no_stop.result c.has_no_stop.ensures
