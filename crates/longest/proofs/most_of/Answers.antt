-- `longest::most_of` meets its contract. Assumes nothing.
use borrow.Author.Tests.{eq-eqb, ne_eqb}
use Rattle.rules.specs.Longest.{limits_with}
use Rattle.longest.proofs.most_of.Goals as goal

pub returns-then-longest-eq0 : goal.returns-then-longest-eq0
unfolding limits_with
returns-then-longest-eq0 c = rw (eq-eqb c.args.longest 0 c.if-longest-eq0.true)

pub returns-else-longest-eq0 : goal.returns-else-longest-eq0
unfolding limits_with
returns-else-longest-eq0 c = rw (ne_eqb c.args.longest 0 c.if-longest-eq0.false)
