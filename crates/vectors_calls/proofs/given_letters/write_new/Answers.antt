-- Assumes nothing.
use Rattle.vectors_calls.proofs.Rows.{new_by}
use Rattle.vectors_calls.proofs.given_letters.write_new.Goals as goal

pub returns : goal.returns
returns c = new_by c.args.line.now _ _ _ _ _ c.fill.ensures c.number.ensures c.word.ensures c.lay_at.ensures
