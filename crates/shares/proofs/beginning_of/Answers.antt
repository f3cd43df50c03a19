-- `shares::beginning_of` meets its contract.
-- Assumes nothing.
use native.Mathlib.Omega.{arith}
use Rattle.rules.proofs.Trims.{cp_le_l}
use Rattle.shares.proofs.Shared.{begin-in, begin-differs, begin-whole, begin-on}
use Rattle.shares.proofs.beginning_of.Goals as goal

pub overflow_add-s : goal.overflow_add-s
overflow_add-s c = let args = c.args in
    let found = c.common_prefix_len in
    let fits = (begin-in args.ahead args.behind args.r.now args.a.now c.requires found.result found.ensures).0 in
    omega arith

pub returns-then-s-r_end : goal.returns-then-s-r_end
returns-then-s-r_end c = let args = c.args in
    let found = c.common_prefix_len in
    begin-differs args.ahead args.behind args.r.now args.a.now c.requires found.result found.ensures c.if-s-r_end.true

pub returns-then-r_end-a_end : goal.returns-then-r_end-a_end
returns-then-r_end-a_end c = let args = c.args in
    let found = c.common_prefix_len in
    begin-whole args.ahead args.behind args.r.now args.a.now c.requires found.result found.ensures c.if-s-r_end.false c.if-r_end-a_end.true

pub slice_bounds-common_prefix_len-count-3 : goal.slice_bounds-common_prefix_len-count-3
slice_bounds-common_prefix_len-count-3 c = let args = c.args in
    let found = c.common_prefix_len in
    let fits = (begin-in args.ahead args.behind args.r.now args.a.now c.requires found.result found.ensures).0 in
    omega arith

pub slice_bounds-common_prefix_len-start-3 : goal.slice_bounds-common_prefix_len-start-3
slice_bounds-common_prefix_len-start-3 c = let args = c.args in
    let found = c.common_prefix_len in
    (begin-in args.ahead args.behind args.r.now args.a.now c.requires found.result found.ensures).0

pub slice_bounds-common_prefix_len-count-4 : goal.slice_bounds-common_prefix_len-count-4
slice_bounds-common_prefix_len-count-4 c = let args = c.args in
    let found = c.common_prefix_len in
    let fits = (begin-in args.ahead args.behind args.r.now args.a.now c.requires found.result found.ensures).1 in
    omega arith

pub slice_bounds-common_prefix_len-start-4 : goal.slice_bounds-common_prefix_len-start-4
slice_bounds-common_prefix_len-start-4 c = let args = c.args in
    let found = c.common_prefix_len in
    (begin-in args.ahead args.behind args.r.now args.a.now c.requires found.result found.ensures).1

pub overflow_add-result : goal.overflow_add-result
overflow_add-result c = let args = c.args in
    let found = c.common_prefix_len in
    let more = c.common_prefix_len-2 in
    let all = begin-on args.ahead args.behind args.r.now args.a.now c.requires found.result found.ensures more.result more.ensures in
    let fits = cp_le_l args.r.now args.a.now in
    omega arith

pub returns : goal.returns
returns c = let args = c.args in
    let found = c.common_prefix_len in
    let more = c.common_prefix_len-2 in
    begin-on args.ahead args.behind args.r.now args.a.now c.requires found.result found.ensures more.result more.ensures
