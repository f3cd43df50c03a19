-- Assumes nothing.
use Rattle.vectors_calls.specs.Letters.{reference_in}
use Rattle.vectors_calls.proofs.Rows.{reference-length, lent_first}
use Rattle.vectors_calls.proofs.given_letters.reference_of.Goals as goal

pub returns : goal.returns
returns c = lent_first 16385 c.args.n (reference_in c.args.line.now) _ c.requires (reference-length c.args.line.now) c.write_reference.ensures
