-- `longest::bases_within` meets its contract. Assumes nothing.
use Rattle.rules.proofs.WithLongest.{bases_within}
use Rattle.longest.proofs.bases_within.Goals as goal

pub returns-then-is_counted-most_of : goal.returns-then-is_counted-most_of
unfolding bases_within
returns-then-is_counted-most_of c = rw (← c.is_counted.ensures, ← c.most_of.ensures, c.if-is_counted-most_of.true)

pub returns : goal.returns
unfolding bases_within
returns c = rw (← c.is_counted.ensures, ← c.most_of.ensures, c.if-is_counted-most_of.false)
