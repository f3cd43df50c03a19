-- Assumes nothing.
use borrow.Author.Tests.{ne_eqb}
use Rattle.vectors_calls.specs.Fields.{kind_by}
use Rattle.vectors_calls.proofs.fields.kind_by.Goals as goal

pub returns-in-98 : goal.returns-in-98
unfolding kind_by
returns-in-98 c = simp c.in-98.is

pub returns-in-105 : goal.returns-in-105
unfolding kind_by
returns-in-105 c = simp (c.in-108.is, c.in-105.is)

pub returns-in_default-fourth : goal.returns-in_default-fourth
unfolding kind_by
returns-in_default-fourth c = simp (c.in-108.is, ne_eqb _ _ c.in_default-fourth.in_default-fourth-own.rest.1)

pub returns-in-115 : goal.returns-in-115
unfolding kind_by
returns-in-115 c = simp c.in-115.is

pub returns-in-112 : goal.returns-in-112
unfolding kind_by
returns-in-112 c = simp c.in-112.is

pub returns-in-118 : goal.returns-in-118
unfolding kind_by
returns-in-118 c = simp c.in-118.is

pub returns-in-109 : goal.returns-in-109
unfolding kind_by
returns-in-109 c = simp c.in-109.is

pub returns-in_default : goal.returns-in_default
unfolding kind_by
returns-in_default c = simp (ne_eqb _ _ c.in_default.in_default-own.rest.0.0.0.0.0.1, ne_eqb _ _ c.in_default.in_default-own.rest.0.0.0.0.1, ne_eqb _ _ c.in_default.in_default-own.rest.0.0.0.1, ne_eqb _ _ c.in_default.in_default-own.rest.0.0.1, ne_eqb _ _ c.in_default.in_default-own.rest.0.1, ne_eqb _ _ c.in_default.in_default-own.rest.1)
