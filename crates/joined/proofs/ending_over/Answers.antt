-- `joined::ending_over` meets its contract.
-- Assumes nothing.
use mathlib.Core.Path.{ap}
use mathlib.Core.Bool.{false}
use Prim.Native.Nat.{◌-◌}
use native.Mathlib.Omega.{arith}
use Rattle.rules.specs.Record.{ending}
use Rattle.joined.specs.Joined.{joined}
use Rattle.shares.proofs.Shared.{ending_fits}
use Rattle.joined.proofs.Joining.{begin-fits, ending-most, ending-some, ending-on}
use Rattle.joined.proofs.ending_over.Goals as goal

pub returns-then-flag : goal.returns-then-flag
unfolding ending
returns-then-flag c = rw c.if-flag.true

pub overflow_sub-most : goal.overflow_sub-most
overflow_sub-most c = let args = c.args in
    let fits = begin-fits args.head args.back args.r.now args.m.now c.requires.joins args.s c.requires.s_value in
    omega (arith, fits.1, fits.2)

pub returns-then-most-behind : goal.returns-then-most-behind
returns-then-most-behind c = let args = c.args in
    rw c.if-flag.false (ending-most args.head args.back args.r.now args.m.now c.requires.joins args.s c.requires.s_value _ (ap (◌- args.s) c.min.ensures) c.if-most-behind.true)

pub overflow_sub-from : goal.overflow_sub-from
overflow_sub-from c = let args = c.args in
    (begin-fits args.head args.back args.r.now args.m.now c.requires.joins args.s c.requires.s_value).0

pub slice_bounds-common_suffix_len-count : goal.slice_bounds-common_suffix_len-count
slice_bounds-common_suffix_len-count c = let args = c.args in
    (ending-some args.head args.back args.r.now args.m.now c.requires.joins args.s c.requires.s_value _ (ap (◌- args.s) c.min.ensures) c.if-most-behind.false).0

pub slice_bounds-common_suffix_len-start : goal.slice_bounds-common_suffix_len-start
slice_bounds-common_suffix_len-start c = let args = c.args in
    (ending-some args.head args.back args.r.now args.m.now c.requires.joins args.s c.requires.s_value _ (ap (◌- args.s) c.min.ensures) c.if-most-behind.false).0

pub slice_bounds-common_suffix_len-count-2 : goal.slice_bounds-common_suffix_len-count-2
slice_bounds-common_suffix_len-count-2 c = let args = c.args in
    (ending-some args.head args.back args.r.now args.m.now c.requires.joins args.s c.requires.s_value _ (ap (◌- args.s) c.min.ensures) c.if-most-behind.false).1

pub slice_bounds-common_suffix_len-start-2 : goal.slice_bounds-common_suffix_len-start-2
slice_bounds-common_suffix_len-start-2 c = let args = c.args in
    (ending-some args.head args.back args.r.now args.m.now c.requires.joins args.s c.requires.s_value _ (ap (◌- args.s) c.min.ensures) c.if-most-behind.false).1

pub overflow_add-result : goal.overflow_add-result
overflow_add-result c = let args = c.args in
    let all = ending-on args.head args.back args.r.now args.m.now c.requires.joins args.s c.requires.s_value _ c.common_suffix_len.result (ap (◌- args.s) c.min.ensures) c.if-most-behind.false c.common_suffix_len.ensures in
    let fits = (ending_fits false args.s _ args.r.now (joined args.head args.back args.r.now args.m.now) c.requires.s_value all).0 in
    omega arith

pub returns : goal.returns
returns c = let args = c.args in
    rw c.if-flag.false (ending-on args.head args.back args.r.now args.m.now c.requires.joins args.s c.requires.s_value _ c.common_suffix_len.result (ap (◌- args.s) c.min.ensures) c.if-most-behind.false c.common_suffix_len.ensures)
