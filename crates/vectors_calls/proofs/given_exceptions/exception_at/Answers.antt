-- Assumes nothing.
use mathlib.Core.Path.{◌∙◌}
use borrow.Author.Tests.{eq-eqb, ne_eqb}
use Rattle.vectors_calls.specs.Given.{exception_at}
use Rattle.vectors_calls.proofs.given_exceptions.exception_at.Goals as goal

pub returns-then-first-eq0 : goal.returns-then-first-eq0
unfolding exception_at
returns-then-first-eq0 c = c.by_rule.ensures ∙ simp (eq-eqb _ _ c.if-first-eq0.true)

pub returns-else-first-eq0 : goal.returns-else-first-eq0
unfolding exception_at
returns-else-first-eq0 c = c.listed_at.ensures ∙ simp (ne_eqb _ _ c.if-first-eq0.false)
