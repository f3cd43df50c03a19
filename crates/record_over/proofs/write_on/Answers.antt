-- `record_over::write_on` meets its contract.
-- Assumes nothing.
use Rattle.record_over.proofs.Seen.{some_written}
use Rattle.record_over.proofs.write_on.Goals as goal

pub returns-then-m-end : goal.returns-then-m-end
returns-then-m-end c = let args = c.args in
    some_written args.m args.end args.back args.r.now args.out.now c.requires.m_in_bounds.0 c.requires.r_in_bounds c.copy.new.dst c.if-m-end.true c.copy.ensures.after
