-- `shortest::parts_there` meets its contract.
use native.Mathlib.Omega.{arith}
use Rattle.rules.proofs.Trims.{cp_le_l, cp_le_r}
use Rattle.shortest.proofs.Parting.{begins_not, ending-within, leaves_by}
use Rattle.shortest.proofs.parts_there.Goals as goal

pub overflow_add-s : goal.overflow_add-s
overflow_add-s c = let args = c.args in omega (arith, cp_le_l args.reference.now args.altered.now)

pub returns-then-number-s : goal.returns-then-number-s
returns-then-number-s c =
    let args = c.args in
    let prefix = c.common_prefix_len-s in
    λ put. begins_not args.number args.deleted.now put args.reference.now args.altered.now prefix.result prefix.ensures c.if-number-s.true

pub slice_bounds-common_suffix_len-count : goal.slice_bounds-common_suffix_len-count
slice_bounds-common_suffix_len-count c = let args = c.args in omega (arith, cp_le_l args.reference.now args.altered.now)

pub slice_bounds-common_suffix_len-start : goal.slice_bounds-common_suffix_len-start
slice_bounds-common_suffix_len-start c = let args = c.args in omega (arith, cp_le_l args.reference.now args.altered.now)

pub slice_bounds-common_suffix_len-count-2 : goal.slice_bounds-common_suffix_len-count-2
slice_bounds-common_suffix_len-count-2 c = let args = c.args in omega (arith, cp_le_r args.reference.now args.altered.now)

pub slice_bounds-common_suffix_len-start-2 : goal.slice_bounds-common_suffix_len-start-2
slice_bounds-common_suffix_len-start-2 c = let args = c.args in omega (arith, cp_le_r args.reference.now args.altered.now)

pub overflow_add-result : goal.overflow_add-result
overflow_add-result c = let args = c.args in omega (arith, cp_le_l args.reference.now args.altered.now)

pub overflow_sub-result : goal.overflow_sub-result
overflow_sub-result c =
    let prefix = c.common_prefix_len-s in
    let suffix = c.common_suffix_len-n in
    let args = c.args in
    omega (arith, ending-within args.reference.now args.altered.now prefix.result suffix.result prefix.ensures suffix.ensures)

pub returns : goal.returns
returns c =
    let prefix = c.common_prefix_len-s in
    let suffix = c.common_suffix_len-n in
    let args = c.args in
    λ put. leaves_by args.reference.now args.altered.now prefix.result suffix.result prefix.ensures suffix.ensures
    args.number args.deleted.now put c.if-number-s.false
