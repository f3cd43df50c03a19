-- `stored_fields::field_places::cds_in` meets its contract. Assumes nothing.
use Rattle.rules.specs.Stored.{bounds_in}
use Rattle.stored_fields.proofs.Form.{wide_bounds, narrow-bounds}
use Rattle.stored_fields.proofs.field_places.cds_in.Goals as goal

pub returns-then-bounds-eq0 : goal.returns-then-bounds-eq0
unfolding bounds_in
returns-then-bounds-eq0 c =
    let a = c.args in
    rw (wide_bounds a.bounds.now a.long.now c.if-bounds-eq0.true, c.four_bytes.ensures, c.four_bytes-then-bounds-eq0.ensures, c.from-table.ensures, c.end_in-end.ensures)

pub returns : goal.returns
unfolding bounds_in
returns c =
    let a = c.args in
    rw (narrow-bounds a.bounds.now a.long.now c.if-bounds-eq0.false, c.two_bytes.ensures, c.two_bytes-2.ensures, c.from-table.ensures, c.end_in-end.ensures)
