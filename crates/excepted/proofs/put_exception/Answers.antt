-- `translation::put_exception` meets its contract. Assumes nothing.
use Rattle.excepted.proofs.Putting.{put_in, put-out}
use Rattle.excepted.proofs.put_exception.Goals as goal

pub returns-then-codon-whole : goal.returns-then-codon-whole
returns-then-codon-whole c = let args = c.args in
    put_in args.x args.whole args.out.now c.requires c.if-codon-whole.true

pub returns-else-codon-whole : goal.returns-else-codon-whole
returns-else-codon-whole c = let args = c.args in
    put-out args.x args.whole args.out.now c.requires c.if-codon-whole.false
