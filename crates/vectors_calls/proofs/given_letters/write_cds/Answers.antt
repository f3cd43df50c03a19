-- Assumes nothing.
use Rattle.vectors_calls.proofs.Rows.{cds-by}
use Rattle.vectors_calls.proofs.given_letters.write_cds.Goals as goal

pub returns : goal.returns
returns c = cds-by c.args.line.now _ _ _ _ _ _ _ _ c.number.ensures c.place_before-start.ensures c.number-2.ensures c.place_before-stop.ensures
    c.fill.ensures c.lay_at.ensures c.lay_at-2.ensures
