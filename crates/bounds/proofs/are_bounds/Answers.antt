-- `bounds::are_bounds` meets its contract. Assumes nothing.
use Rattle.bounds.proofs.Testing.{no-bounds, bounds-are}
use Rattle.bounds.proofs.are_bounds.Goals as goal

pub returns-then-c-size : goal.returns-then-c-size
returns-then-c-size c = λ s is. no-bounds s c.args.c (rw is c.if-c-size.true)

pub returns : goal.returns
returns c = λ s is. rw c.fits_end.ensures (bounds-are s c.args.c (rw is c.if-c-size.false))
