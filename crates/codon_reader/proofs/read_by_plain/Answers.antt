-- `codon_reader::read_by_plain` meets its contract: two bases are read at their place, and any others as the mixed pair that they are.
-- Assumes nothing.
use mathlib.Core.Path.{◌∙◌}
use Rattle.codon_reader.proofs.Pairs.{bases_rule, mixed_rule_lem}
use Rattle.codon_reader.proofs.read_by_plain.Goals as goal

pub returns-then-is_base_set : goal.returns-then-is_base_set
returns-then-is_base_set c = let args = c.args in
    c.read_third.ensures
    ∙ bases_rule args.table args.a args.b args.c _ _ c.requires.a_nonzero.1 c.requires.b_nonzero.1 c.is_base_set.ensures c.is_base_set-2.ensures c.if-is_base_set.true

pub returns : goal.returns
returns c = let args = c.args in
    c.read_mixed.ensures
    ∙ mixed_rule_lem args.table args.a args.b args.c _ _ c.requires.a_nonzero.1 c.requires.b_nonzero.1 c.requires.c_nonzero c.is_base_set.ensures c.is_base_set-2.ensures c.if-is_base_set.false
