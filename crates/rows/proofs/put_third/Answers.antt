-- `rows::put_third` meets its contract. The invariant: the first rows' residues are put, and nothing else. Assumes nothing.
use borrow.Author.Rules.{rules}
use Rattle.rows.proofs.Rowed.{put-more}
use Rattle.rows.proofs.put_third.Goals as goal

pub loop-k-preserved : goal.loop-k-preserved
loop-k-preserved c =
    let loop = c.loop-k in
    put-more c.args.rows.now c.args.all.now c.args.c loop.all loop.k _ c.requires.c_bound loop.invariant c.loop-k-test.true (search rules)
