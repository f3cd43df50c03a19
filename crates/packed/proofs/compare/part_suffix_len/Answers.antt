-- `packed::compare::part_suffix_len` meets its contract. Assumes nothing.
use mathlib.Core.Path.{sym, ap, ◌∙◌}
use Prim.Native.Nat.{ℕ, ◌+◌, ◌-◌, ◌≤◌}
use native.Mathlib.Omega.{arith}
use lib.ListN.{length, take}
use lib.Seq.{length-take-le}
use Rattle.rules.specs.Altered.{part}
use Rattle.rules.proofs.Parts.{length_part}
use Rattle.rules.proofs.Trims.{cs_le_l, cs_le_r}
use Rattle.rules.specs.Packed.{letters_in}
use Rattle.rules.proofs.Packed.{length-letters}
use Rattle.packed.proofs.Blocks.{last-short, last-whole, counted-last, moved_back}
use borrow.Author.Rules.{rules}
use Rattle.packed.proofs.compare.part_suffix_len.Goals as goal

pub returns-then-found-k : goal.returns-then-found-k
returns-then-found-k c = let p = c.loop-left.p in
    let q = c.loop-left.q in
    let left = c.loop-left.left in
    let n = c.min-n.result in
    let k = c.min-k.result in
    let s = letters_in c.args.packed.now in
    let to : n ≤ c.args.to - c.args.from = omega arith in
    let fits : p ≤ length s = rw length-letters (omega (arith, c.requires.to_in_bounds)) in
    sym (c.loop-left.invariant.4 ∙ ap (λ (r : ℕ). n - left + r) (last-short c.args.from p s c.args.new.now fits q k (omega arith) (omega arith) (omega arith) c.block_suffix-found.result c.block_suffix-found.ensures c.if-found-k.true))

pub loop-left-preserved : goal.loop-left-preserved
loop-left-preserved c = let p = c.loop-left.p in
    let q = c.loop-left.q in
    let left = c.loop-left.left in
    let n = c.min-n.result in
    let k = c.min-k.result in
    let s = letters_in c.args.packed.now in
    let to : n ≤ c.args.to - c.args.from = omega arith in
    let fits : p ≤ length s = rw length-letters (omega (arith, c.requires.to_in_bounds)) in
    (omega arith, search rules, moved_back p n c.args.to left k c.loop-left.invariant.2 (omega arith) (omega arith), moved_back q n (length c.args.new.now) left k c.loop-left.invariant.3 (omega arith) (omega arith), counted-last n left _ _ (omega arith) c.loop-left.invariant.4 k _ (omega arith) (last-whole c.args.from p s c.args.new.now fits q k (omega arith) (omega arith) (omega arith) c.block_suffix-found.result c.block_suffix-found.ensures c.if-found-k.false))

pub returns : goal.returns
returns c = let p = c.loop-left.p in
    let q = c.loop-left.q in
    let s = letters_in c.args.packed.now in
    let fits : p ≤ length s = rw length-letters (omega (arith, c.requires.to_in_bounds)) in
    let few : q ≤ length c.args.new.now = omega arith in
    omega (arith, cs_le_l (part c.args.from p s) (take q c.args.new.now), cs_le_r (part c.args.from p s) (take q c.args.new.now), length_part c.args.from p s fits, length-take-le q c.args.new.now few)
