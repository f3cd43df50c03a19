-- `garumbott::pairing::garumbott_pair` meets its contract. Assumes nothing.
use mathlib.Core.Path.{ap, ◌∙◌}
use Rattle.rules.specs.declared.Cds.{Cds}
use Rattle.rules.specs.Packed.{letters_by, form_at}
use Rattle.rules.specs.Views.{cds_of}
use Rattle.pairs.specs.Carrying.{pair_room_of}
use Rattle.host_told.specs.Told.{paired_of}
use Rattle.garumbott.specs.Host.{host_asked}
use Rattle.host_given.proofs.Given.{given_edit}
use Rattle.garumbott.proofs.Within.{pair-host}
use Rattle.garumbott.proofs.pairing.garumbott_pair.Goals as goal

pub returns : goal.returns
returns c =
    let a = c.args in
    let x = c.pair_within.ensures in
    let cds = c.cds_at-cds.ensures in
    let first = given_edit a.kind a.start_star a.start a.end_star a.end c.ranges.start c.ranges.end c.edit_at-first.result c.edit_at-first.ensures in
    let second = given_edit a.other_kind a.other_start_star a.other_start a.other_end_star a.other_end c.ranges.other_start c.ranges.other_end c.edit_at-second.result c.edit_at-second.ensures in
    let same = pair-host a.longest (letters_by (form_at a.form a.size) a.letters.now) (cds_of a.cs a.ce a.table a.cds_end) a.exceptions.now a.other_longest (host_asked a.kind a.start_star a.start a.end_star a.end a.bases.now) (host_asked a.other_kind a.other_start_star a.other_start a.other_end_star a.other_end a.other_bases.now) (pair_room_of a.transcript.now a.altered.now) in
    rw (← same, ← c.form_at.ensures, ← first, ← second, ← c.exceptions_in-e.ensures, ← ap (λ (c : Cds). c.cs) cds, ← ap (λ (c : Cds). c.ce) cds, ← ap (λ (c : Cds). c.table) cds, ← ap (λ (c : Cds). c.end) cds)
    (record {
      says = c.from.ensures ∙ ap paired_of x.says;
      holds-transcript = x.holds-transcript;
      holds-altered = x.holds-altered;
    })
