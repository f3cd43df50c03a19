-- `garumbott::writing::garumbott_write_stored` meets its contract. Assumes nothing.
use mathlib.Core.Path.{ap, ◌∙◌}
use lib.ListN.{length}
use Rattle.rules.specs.declared.Cds.{Cds}
use Rattle.rules.specs.Refusal.{limits}
use Rattle.rules.specs.Packed.{letters_by, form_at}
use Rattle.rules.specs.Views.{cds_of}
use Rattle.host_told.specs.Told.{length_of}
use Rattle.garumbott.proofs.Excepted.{written-given}
use Rattle.garumbott.proofs.writing.garumbott_write_stored.Goals as goal

pub returns : goal.returns
returns c =
    let a = c.args in
    let w = c.write_stored.ensures in
    let cds = c.cds_at-cds.ensures in
    let same = written-given limits (letters_by (form_at a.form a.size) a.letters.now) (cds_of a.cs a.ce a.table a.cds_end) (length a.out.now) a.exceptions.now in
    rw (← same, ← c.form_at.ensures, ← c.exceptions_in-e.ensures, ← ap (λ (c : Cds). c.cs) cds, ← ap (λ (c : Cds). c.ce) cds, ← ap (λ (c : Cds). c.table) cds, ← ap (λ (c : Cds). c.end) cds) (record { value = c.from.ensures ∙ ap length_of w.value; out_after = w.out_after })
