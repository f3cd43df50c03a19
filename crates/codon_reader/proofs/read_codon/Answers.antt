-- `codon_reader::read_codon` meets its contract: what `expand` joins with all three letters left is the codon rule. Assumes nothing.
use mathlib.Core.Path.{◌∙◌}
use Rattle.codon_reader.proofs.Agreement.{by_letters}
use Rattle.codon_reader.proofs.read_codon.Goals as goal

pub returns : goal.returns
returns c =
    c.expand.ensures
    ∙ by_letters c.args.table c.args.a c.args.b c.args.c c.requires.a_nonzero c.requires.b_nonzero c.requires.c_nonzero
