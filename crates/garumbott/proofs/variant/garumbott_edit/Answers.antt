-- `garumbott::variant::garumbott_edit` meets its contract. Assumes nothing.
use mathlib.Core.Path.{ap, ◌∙◌}
use lib.ListN.{length}
use Rattle.rules.specs.declared.Cds.{Cds}
use Rattle.rules.specs.Packed.{letters_by, form_at}
use Rattle.rules.specs.Views.{cds_of}
use Rattle.host_told.specs.Told.{transcribed_of}
use Rattle.garumbott.specs.Host.{host_asked}
use Rattle.host_given.proofs.Given.{given_edit}
use Rattle.garumbott.proofs.Within.{edited-host}
use Rattle.garumbott.proofs.variant.garumbott_edit.Goals as goal

pub returns : goal.returns
returns c =
    let a = c.args in
    let x = c.transcript_within.ensures in
    let cds = c.cds_at-cds.ensures in
    let edit = given_edit a.kind a.start_star a.start a.end_star a.end c.ranges.start c.ranges.end c.edit_at-edit.result c.edit_at-edit.ensures in
    let same = edited-host a.longest (letters_by (form_at a.form a.size) a.letters.now) (cds_of a.cs a.ce a.table a.cds_end) a.exceptions.now (host_asked a.kind a.start_star a.start a.end_star a.end a.bases.now) (length a.transcript.now) in
    rw (← same, ← c.form_at.ensures, ← edit, ← c.exceptions_in-e.ensures, ← ap (λ (c : Cds). c.cs) cds, ← ap (λ (c : Cds). c.ce) cds, ← ap (λ (c : Cds). c.table) cds, ← ap (λ (c : Cds). c.end) cds) (record { value = c.from.ensures ∙ ap transcribed_of x.answer; transcript_after = x.transcript_after })
