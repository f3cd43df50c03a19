-- `packed::compare::part_prefix_len` meets its contract. Assumes nothing.
use mathlib.Core.Path.{◌≡◌}
use Prim.Native.Nat.{◌+◌, ◌-◌, ◌≤◌, ◌<◌}
use native.Mathlib.Omega.{arith}
use lib.ListN.{length, drop, length-drop}
use Rattle.rules.specs.Altered.{part}
use Rattle.rules.proofs.Trims.{cp_le_l, cp_le_r}
use Rattle.rules.specs.Packed.{letters_in}
use Rattle.rules.proofs.Packed.{length-letters}
use Rattle.halves.proofs.Halves.{length_of_part}
use Rattle.packed.proofs.Blocks.{block-short, block-whole}
use Rattle.packed.proofs.compare.part_prefix_len.Goals as goal

pub returns-then-found-end : goal.returns-then-found-end
returns-then-found-end c = let i = c.loop-i.i in
    let end = c.min-end.result in
    let s = letters_in c.args.packed.now in
    let fits : c.args.to ≤ length s = rw length-letters c.requires.to_in_bounds in
    omega (arith, block-short c.args.from c.args.to s c.args.new.now fits i end (omega arith) (omega arith) (omega arith) c.block_prefix-found.result c.block_prefix-found.ensures c.if-found-end.true)

pub loop-i-preserved : goal.loop-i-preserved
loop-i-preserved c = let i = c.loop-i.i in
    let end = c.min-end.result in
    let s = letters_in c.args.packed.now in
    let fits : c.args.to ≤ length s = rw length-letters c.requires.to_in_bounds in
    let whole = block-whole c.args.from c.args.to s c.args.new.now fits i end (omega arith) (omega arith) (omega arith) c.block_prefix-found.result c.block_prefix-found.ensures (λ (h : c.block_prefix-found.result < end - i). omega arith) in
    let next : end ≡ i + 64 = omega arith in
    (omega arith, omega (arith, rw next at whole))

pub returns-else-found-end : goal.returns-else-found-end
returns-else-found-end c = let i = c.loop-i.i in
    let end = c.min-end.result in
    let s = letters_in c.args.packed.now in
    let a = part c.args.from c.args.to s in
    let b = c.args.new.now in
    let fits : c.args.to ≤ length s = rw length-letters c.requires.to_in_bounds in
    omega (arith, block-whole c.args.from c.args.to s b fits i end (omega arith) (omega arith) (omega arith) c.block_prefix-found.result c.block_prefix-found.ensures (λ (h : c.block_prefix-found.result < end - i). omega arith), cp_le_l (drop end a) (drop end b), cp_le_r (drop end a) (drop end b), length-drop end a, length-drop end b, length_of_part c.args.from c.args.to c.args.packed.now c.requires.to_in_bounds)

pub returns : goal.returns
returns c = let i = c.loop-i.i in
    let a = part c.args.from c.args.to (letters_in c.args.packed.now) in
    let b = c.args.new.now in
    omega (arith, cp_le_l (drop i a) (drop i b), cp_le_r (drop i a) (drop i b), length-drop i a, length-drop i b, length_of_part c.args.from c.args.to c.args.packed.now c.requires.to_in_bounds)
