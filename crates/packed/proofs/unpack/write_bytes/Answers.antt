-- `packed::unpack::write_bytes` meets its contract. Assumes nothing.
use mathlib.Core.Path.{◌∙◌}
use Prim.Native.Nat.{◌+◌, ◌-◌, ◌*◌, ◌/◌, ◌%◌}
use native.Mathlib.Omega.{arith}
use lib.ListN.{length-set}
use Rattle.packed.proofs.Pairs.{letters-from, letter-turn, both-turn, letters-end}
use Rattle.packed.proofs.unpack.write_bytes.Goals as goal

pub loop-k-preserved : goal.loop-k-preserved
loop-k-preserved c = let i = c.args.done + c.loop-k.k * 2 in
    let j = (c.args.from + c.args.done) / 2 + c.loop-k.k in (
      simp length-set c.loop-k.invariant.0,
      letters-from c.args.from c.args.to c.args.packed.now c.requires.to_in_bounds.0 (c.args.done + (c.loop-k.k + 1) * 2) (i + 2) _ (omega arith)
          ∙ both-turn c.args.from c.args.to c.args.packed.now c.requires.to_in_bounds.0 i c.loop-k.out _ (c.pair_at-p.result % 256) (c.pair_at-p.result / 256) j (omega arith) (omega arith) (omega arith) c.pair_at-p.ensures.first c.pair_at-p.ensures.second c.loop-k.invariant.1,
    )

pub returns-then-last-n : goal.returns-then-last-n
returns-then-last-n c = let both = (c.args.to - c.args.from - c.args.done) / 2 in
    let i = c.args.done + both * 2 in
    let j = (c.args.from + c.args.done) / 2 + both in
    letters-end c.args.from c.args.to c.args.packed.now c.requires.to_in_bounds.0 (i + 1) _ _ (omega arith)
    (letter-turn c.args.from c.args.to c.args.packed.now c.requires.to_in_bounds.0 i c.loop-k.out _ (c.pair_at-p-then-last-n.result % 256) (j * 2) (omega arith) (omega arith) (omega arith) c.pair_at-p-then-last-n.ensures.first
    (letters-from c.args.from c.args.to c.args.packed.now c.requires.to_in_bounds.0 i (c.args.done + c.loop-k.k * 2) c.loop-k.out (omega arith) ∙ c.loop-k.invariant.1))

pub returns-else-last-n : goal.returns-else-last-n
returns-else-last-n c = letters-end c.args.from c.args.to c.args.packed.now c.requires.to_in_bounds.0 (c.args.done + c.loop-k.k * 2) _ _ (omega arith) c.loop-k.invariant.1
