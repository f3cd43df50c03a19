-- `translation::blocks_fold_to_bases` meets its contract. The invariant: the blocks before passed. Assumes nothing.
use mathlib.Core.Path.{◌≡◌, sym}
use Prim.Native.Nat.{◌+◌, ◌*◌}
use native.Mathlib.Omega.{arith}
use borrow.Author.Rules.{rules}
use Rattle.letters.specs.Sets.{folds_to_base}
use Rattle.translation.proofs.Parts.{block-fits, none-fails, block-fails, block-passes}
use Rattle.translation.proofs.bases.blocks_fold_to_bases.Goals as goal

pub returns-then-not-all_bytes : goal.returns-then-not-all_bytes
returns-then-not-all_bytes g c =
    block-fails folds_to_base c.args.s.now (c.loop-k.k * g.row.N) (c.loop-k.k * g.row.N + g.row.N) (c.args.blocks * g.row.N) _ (omega arith) (c.all_bytes.ensures.value folds_to_base (search rules)) c.if-not-all_bytes.true (block-fits c.loop-k.k g.row.N c.args.blocks c.loop-k-test.true)

pub loop-k-preserved : goal.loop-k-preserved
loop-k-preserved g c =
    block-passes folds_to_base c.args.s.now c.loop-k.k g.row.N _ (c.all_bytes.ensures.value folds_to_base (search rules)) c.if-not-all_bytes.false c.loop-k.invariant

pub loop-k-init : goal.loop-k-init
loop-k-init g c = none-fails folds_to_base c.args.s.now g.row.N

pub returns : goal.returns
returns g c =
    let last : c.loop-k.k ≡ c.args.blocks = omega arith in
    sym (rw last at c.loop-k.invariant)
