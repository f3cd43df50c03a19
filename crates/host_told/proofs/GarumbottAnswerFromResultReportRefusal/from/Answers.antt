-- What an edit is answered, as a host's numbers. Assumes nothing.
use Rattle.rules.specs.Values.{values_of}
use Rattle.host_told.proofs.GarumbottAnswerFromResultReportRefusal.from.Goals as goal

pub returns-in-Err : goal.returns-in-Err
unfolding values_of
returns-in-Err c = rw (c.in-Err.is, c.alone.ensures, c.number.ensures)
