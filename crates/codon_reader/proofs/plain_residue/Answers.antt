-- `codon_reader::plain_residue` meets its contract: each code's list is its definition's, and one law reads it. Assumes nothing.
use native.Mathlib.Omega.{arith}
use Rattle.codon_reader.proofs.Expanded.{code_at}
use Rattle.codon_reader.proofs.plain_residue.Goals as goal

pub returns-in_default : goal.returns-in_default
returns-in_default c = code_at 2 c.args.table c.args.place (omega arith) c.requires.1
