-- `codon_reader::read_mixed` meets its contract: no pairs of bases, or what two give together. Assumes nothing.
use Rattle.codon_reader.proofs.Pairs.{mixed-none, mixed_two}
use Rattle.codon_reader.proofs.read_mixed.Goals as goal

pub returns-then-pairs-eq0 : goal.returns-then-pairs-eq0
returns-then-pairs-eq0 c = let args = c.args in
    mixed-none args.table args.sets args.c _ c.two_pairs-pairs.ensures.value c.if-pairs-eq0.true

pub returns : goal.returns
returns c = let args = c.args in
    mixed_two args.table args.sets args.c _ c.two_pairs-pairs.ensures.value _ _ _
    c.if-pairs-eq0.false c.read_third-first.ensures c.read_third-second.ensures c.join.ensures
