-- `positions::refusals::fit_bases` meets its contract. Assumes nothing.
use Rattle.std.proofs.Common.{arith}
use Rattle.rules.specs.Edit.{fit_bases}
use Rattle.positions.proofs.Tests.{none-given}
use Rattle.positions.proofs.refusals.fit_bases.Goals as goal

pub returns-in-Deletion : goal.returns-in-Deletion
unfolding fit_bases
returns-in-Deletion c = grind (arith, none-given c.args.new.now)
