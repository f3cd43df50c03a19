-- `halves::size::size_of` meets its contract. Assumes nothing.
use Rattle.halves.proofs.Sizes.{counted-size, no_size}
use Rattle.halves.proofs.size.size_of.Goals as goal

pub returns-then-letters-size : goal.returns-then-letters-size
returns-then-letters-size c = counted-size c.args.form _ c.args.letters.now c.in-Packed.is c.if-letters-size.true

pub returns-else-letters-size : goal.returns-else-letters-size
returns-else-letters-size c = no_size c.args.form _ c.args.letters.now c.in-Packed.is c.if-letters-size.false
