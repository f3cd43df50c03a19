-- `rows::lay_residues` meets its contract. The invariant: the first third letters are put. Assumes nothing.
use native.Mathlib.Omega.{arith}
use Rattle.rows.proofs.Rowed.{laid_none, laid-all}
use Rattle.rows.proofs.lay_residues.Goals as goal

pub loop-c-init : goal.loop-c-init
loop-c-init c = rw c.requires.all_value (laid_none c.args.table c.rows_of-rows.result c.rows_of-rows.ensures)

pub returns : goal.returns
returns c =
    laid-all c.args.table c.rows_of-rows.result c.loop-c.all c.loop-c.c c.requires.table_bound c.rows_of-rows.ensures c.loop-c.invariant (omega arith)
