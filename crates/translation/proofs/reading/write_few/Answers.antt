-- `translation::write_few` meets its contract. Assumes nothing.
use mathlib.Core.Path.{◌∙◌}
use Rattle.translation.proofs.Left.{left-start}
use Rattle.translation.proofs.reading.write_few.Goals as goal

pub returns : goal.returns
returns c = c.write_left.ensures ∙ left-start c.args.table c.args.seq.now c.args.out.now
