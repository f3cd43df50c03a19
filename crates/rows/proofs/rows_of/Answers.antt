-- `rows::rows_of` meets its contract: each of the three lists the rule of its rows, which antt computes. Assumes nothing.
use native.Mathlib.Omega.{arith}
use Rattle.rules.specs.Codons.{codon_rule}
use Rattle.rows.proofs.Rowed.{row_at, holds_rows}
use Rattle.rows.proofs.rows_of.Goals as goal

pub returns-in-0 : goal.returns-in-0
unfolding row_at codon_rule
returns-in-0 c = holds_rows 0 c.args.table c.in-0.is

pub returns-in-1 : goal.returns-in-1
unfolding row_at codon_rule
returns-in-1 c = holds_rows 1 c.args.table c.in-1.is

pub returns-in_default : goal.returns-in_default
unfolding row_at codon_rule
returns-in_default c = holds_rows 2 c.args.table (omega (arith, c.in_default.in_default-own.rest.1, c.in_default.in_default-own.rest.0.1))
