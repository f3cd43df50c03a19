-- Assumes nothing.
use Rattle.vectors_calls.specs.Letters.{new_in}
use Rattle.vectors_calls.proofs.Rows.{new-length, lent_first}
use Rattle.vectors_calls.proofs.given_letters.new_of.Goals as goal

pub returns : goal.returns
returns c = lent_first 4097 c.args.n (new_in c.args.line.now) _ c.requires (new-length c.args.line.now) c.write_new.ensures
