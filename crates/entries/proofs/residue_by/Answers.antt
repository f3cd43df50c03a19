-- `entries::residue_by` meets its contract. Assumes nothing.
use mathlib.Core.Path.{sym, ◌∙◌}
use Rattle.rules.specs.Translation.{exception_list}
use Rattle.entries.proofs.Entries.{by-none, by-cut, by_whole, by_plain}
use Rattle.entries.proofs.residue_by.Goals as goal

pub returns-then-entry-eq0 : goal.returns-then-entry-eq0
returns-then-entry-eq0 c =
    let a = c.args in
    sym (by-none a.residues.now (exception_list a.e) a.entry a.n c.if-entry-eq0.true)

pub returns-then-entry-eq0-2 : goal.returns-then-entry-eq0-2
returns-then-entry-eq0-2 c =
    let a = c.args in
    sym (by-cut a.residues.now (exception_list a.e) a.entry a.n c.if-entry-eq0.false c.if-entry-eq0-2.true)

pub returns-then-e-eq0 : goal.returns-then-e-eq0
returns-then-e-eq0 c =
    let a = c.args in
    sym (by_whole a.residues.now (exception_list a.e) a.entry a.n c.if-entry-eq0.false c.if-entry-eq0-2.false ∙ by_plain a.e a.n _ c.if-e-eq0.true)

pub returns : goal.returns
returns c =
    let a = c.args in
    c.excepted_at.ensures ∙ sym (by_whole a.residues.now (exception_list a.e) a.entry a.n c.if-entry-eq0.false c.if-entry-eq0-2.false)
