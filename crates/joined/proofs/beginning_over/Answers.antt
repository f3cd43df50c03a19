-- `joined::beginning_over` meets its contract.
-- Assumes nothing.
use native.Mathlib.Omega.{arith}
use Rattle.rules.proofs.Trims.{cp_le_l}
use Rattle.joined.specs.Joined.{joined}
use Rattle.joined.proofs.Joining.{begin-in, begin-differs, begin-whole, begin-on}
use Rattle.joined.proofs.beginning_over.Goals as goal

pub overflow_add-s : goal.overflow_add-s
overflow_add-s c = let args = c.args in
    let fits = begin-in args.head args.back args.r.now args.m.now c.requires c.common_prefix_len-k.result c.common_prefix_len-k.ensures in
    omega arith

pub returns-then-k-m : goal.returns-then-k-m
returns-then-k-m c = let args = c.args in
    begin-differs args.head args.back args.r.now args.m.now c.requires c.common_prefix_len-k.result c.common_prefix_len-k.ensures c.if-k-m.true

pub returns-then-s-back : goal.returns-then-s-back
returns-then-s-back c = let args = c.args in
    begin-whole args.head args.back args.r.now args.m.now c.requires c.common_prefix_len-k.result c.common_prefix_len-k.ensures c.if-k-m.false c.if-s-back.true

pub slice_bounds-common_prefix_len-count-2 : goal.slice_bounds-common_prefix_len-count-2
slice_bounds-common_prefix_len-count-2 c = let args = c.args in
    begin-in args.head args.back args.r.now args.m.now c.requires c.common_prefix_len-k.result c.common_prefix_len-k.ensures

pub slice_bounds-common_prefix_len-start-2 : goal.slice_bounds-common_prefix_len-start-2
slice_bounds-common_prefix_len-start-2 c = let args = c.args in
    begin-in args.head args.back args.r.now args.m.now c.requires c.common_prefix_len-k.result c.common_prefix_len-k.ensures

pub overflow_add-result : goal.overflow_add-result
overflow_add-result c = let args = c.args in
    let all = begin-on args.head args.back args.r.now args.m.now c.requires c.common_prefix_len-k.result c.common_prefix_len-k.ensures c.if-k-m.false c.common_prefix_len.result c.common_prefix_len.ensures in
    omega (arith, cp_le_l args.r.now (joined args.head args.back args.r.now args.m.now))

pub returns : goal.returns
returns c = let args = c.args in
    begin-on args.head args.back args.r.now args.m.now c.requires c.common_prefix_len-k.result c.common_prefix_len-k.ensures c.if-k-m.false c.common_prefix_len.result c.common_prefix_len.ensures
