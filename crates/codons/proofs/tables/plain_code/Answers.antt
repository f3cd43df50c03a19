-- `codons::tables::plain_code` meets its contract: each of the three tables lists the rule for plain codons, which antt computes. Assumes nothing.
use native.Mathlib.Omega.{arith}
use Rattle.rules.specs.Codons.{codon_rule}
use Rattle.codons.proofs.Plain.{plain_at, holds_plain}
use Rattle.codons.proofs.tables.plain_code.Goals as goal

pub returns-in-0 : goal.returns-in-0
unfolding plain_at codon_rule
returns-in-0 c = holds_plain 0 c.args.table c.in-0.is

pub returns-in-1 : goal.returns-in-1
unfolding plain_at codon_rule
returns-in-1 c = holds_plain 1 c.args.table c.in-1.is

pub returns-in_default : goal.returns-in_default
unfolding plain_at codon_rule
returns-in_default c = holds_plain 2 c.args.table (omega (arith, c.in_default.in_default-own.rest.1, c.in_default.in_default-own.rest.0.1))
