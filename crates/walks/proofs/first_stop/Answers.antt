-- `walks::first_stop` meets its contract, whichever way is taken. Assumes nothing.
use mathlib.Core.Path.{refl}
use borrow.Author.Rules.{rules}
use Rattle.walks.proofs.Walks.{both}
use Rattle.walks.proofs.first_stop.Goals as goal

pub returns-then-plain-e : goal.returns-then-plain-e
returns-then-plain-e c = let args = c.args in
    rw (both args.plain args.e c.if-plain-e.true).1 c.stop_by_places.ensures

pub returns : goal.returns
returns c = c.first_stop_of.ensures c.args.table c.args.seq.now (record { many = refl; each = λ i r h called. search rules })
