-- Assumes nothing.
use Rattle.vectors_calls.proofs.Rows.{reference-by}
use Rattle.vectors_calls.proofs.given_letters.write_reference.Goals as goal

pub returns : goal.returns
returns c = reference-by c.args.line.now _ _ _ _ _ c.write_cds.ensures c.number.ensures c.word.ensures c.lay_at.ensures
