-- `stored_fields::field_places::stored_at` meets its contract. Assumes nothing.
use mathlib.Core.Path.{◌∙◌}
use Rattle.stored_fields.proofs.Reading.{within, fit, reads}
use Rattle.stored_fields.proofs.field_places.stored_at.Goals as goal

pub bytes_at-requires : goal.bytes_at-requires
bytes_at-requires c =
    within c.args.s.now c.requires.stand.unrefused 2 c.args.p.bounds c.requires.stand.bounds

pub bytes_at-requires-2 : goal.bytes_at-requires-2
bytes_at-requires-2 c =
    within c.args.s.now c.requires.stand.unrefused 7 c.args.p.wide c.requires.stand.wide

pub bytes_at-requires-3 : goal.bytes_at-requires-3
bytes_at-requires-3 c =
    within c.args.s.now c.requires.stand.unrefused 3 c.args.p.table c.requires.stand.table

pub bytes_at-requires-4 : goal.bytes_at-requires-4
bytes_at-requires-4 c =
    within c.args.s.now c.requires.stand.unrefused 8 c.args.p.end c.requires.stand.end

pub cds_in-cds-requires : goal.cds_in-cds-requires
cds_in-cds-requires c =
    rw (c.bytes_at.ensures, c.bytes_at-2.ensures, c.bytes_at-3.ensures) (fit c.args.s.now c.args.p c.requires.stand c.requires.p_value)

pub returns : goal.returns
returns c =
    reads c.args.s.now c.args.p c.requires.stand c.requires.p_value c.cds_in-cds.result
    (c.cds_in-cds.ensures ∙ rw (c.bytes_at.ensures, c.bytes_at-2.ensures, c.bytes_at-3.ensures, c.bytes_at-4.ensures))
