-- `shares::ending_of` meets its contract.
-- Assumes nothing.
use native.Mathlib.Omega.{arith}
use Rattle.rules.specs.Record.{ending}
use Rattle.shares.proofs.Shared.{ending-is, ending-in}
use Rattle.shares.proofs.ending_of.Goals as goal

pub returns-then-flag : goal.returns-then-flag
unfolding ending
returns-then-flag c = rw c.if-flag.true

pub overflow_add-result : goal.overflow_add-result
overflow_add-result c = let args = c.args in
    let pre = c.requires in
    let known = c.min-known in
    let suffix = c.common_suffix_len in
    let fits = ending-in args.behind args.s known.result args.r.now args.a.now pre.shares pre.s_in_bounds.0 pre.s_in_bounds.1 (rw c.min.ensures at known.ensures) suffix.result suffix.ensures in
    omega arith

pub returns : goal.returns
returns c = let args = c.args in
    let pre = c.requires in
    let known = c.min-known in
    let suffix = c.common_suffix_len in
    rw c.if-flag.false
    (ending-is args.behind args.s known.result args.r.now args.a.now pre.shares pre.s_in_bounds.0 pre.s_in_bounds.1 (rw c.min.ensures at known.ensures) suffix.result suffix.ensures)
