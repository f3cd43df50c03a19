-- Assumes nothing.
use Prim.Native.Nat.{◌%◌}
use native.Mathlib.Omega.{arith}
use borrow.Author.Tests.{ne_eqb}
use Rattle.vectors_plain.specs.Rows.{number_at}
use Rattle.vectors_plain.proofs.codes.number_at.Goals as goal

pub returns-in-0 : goal.returns-in-0
unfolding number_at
returns-in-0 c = record { value = simp c.in-0.is; within = omega arith }

pub returns-in-1 : goal.returns-in-1
unfolding number_at
returns-in-1 c = record { value = simp c.in-1.is; within = omega arith }

pub returns-in_default : goal.returns-in_default
unfolding number_at
returns-in_default c = record { value = simp (ne_eqb (c.args.j % 3) 0 (omega arith), ne_eqb (c.args.j % 3) 1 (omega arith)); within = omega arith }
