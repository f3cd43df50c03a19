-- `record::record_from` meets its contract: nothing is known to be shared.
-- Assumes nothing.
use Rattle.shares.proofs.Shared.{shares_none}
use Rattle.record.proofs.record_from.Goals as goal

pub record_beside-requires : goal.record_beside-requires
record_beside-requires c = record { le_number = c.requires; shares = shares_none c.args.r.now c.args.a.now }
