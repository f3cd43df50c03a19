-- `codon_reader::read_third` meets its contract: the four plain codons of a pair agree as the rule has it. Assumes nothing.
use mathlib.Core.Path.{◌∙◌}
use Rattle.codon_reader.proofs.Pairs.{third_read}
use Rattle.codon_reader.proofs.read_third.Goals as goal

pub returns : goal.returns
returns c = c.agreed_on.ensures ∙ third_read c.args.table c.args.code.now c.requires.holds_plain c.args.pair c.args.c c.requires.pair_bound c.requires.c_nonzero
