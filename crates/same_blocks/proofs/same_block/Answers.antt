-- `same_blocks::same_block` meets its contract. The invariant: what was found and what is left decide.
use mathlib.Core.Path.{refl, sym, ◌∙◌}
use native.Mathlib.Omega.{arith}
use Rattle.same_blocks.proofs.Blocks.{same-and, same-and-end}
use Rattle.same_blocks.proofs.same_block.Goals as goal

pub loop-i-preserved : goal.loop-i-preserved
loop-i-preserved c = let args = c.args in
    same-and args.a.now args.b.now c.loop-i.i c.loop-i.good _ (omega arith) (omega arith) refl ∙ c.loop-i.invariant

pub returns : goal.returns
returns c = let args = c.args in
    sym (same-and-end args.a.now args.b.now c.loop-i.i c.loop-i.good (omega arith) (omega arith)) ∙ c.loop-i.invariant
