-- `translation::all_fold_to_bases` meets its contract: the first part that fails decides, and where none fails the last sixteen. Assumes nothing.
use Prim.Native.Nat.{◌-◌, ◌*◌, ◌/◌}
use native.Mathlib.Omega.{arith}
use borrow.Author.Rules.{rules}
use lib.ListN.{length}
use Rattle.letters.specs.Sets.{folds_to_base}
use Rattle.translation.proofs.Parts.{front-fails, next-fails, last-decides, length-rest}
use Rattle.translation.proofs.bases.all_fold_to_bases.Goals as goal

pub returns-then-not-blocks_fold_to_bases : goal.returns-then-not-blocks_fold_to_bases
returns-then-not-blocks_fold_to_bases c =
    front-fails folds_to_base c.args.s.now _ _ c.blocks_fold_to_bases.ensures c.if-not-blocks_fold_to_bases.true

pub returns-then-not-blocks_fold_to_bases-2 : goal.returns-then-not-blocks_fold_to_bases-2
returns-then-not-blocks_fold_to_bases-2 c =
    next-fails folds_to_base c.args.s.now _ _ _ c.blocks_fold_to_bases-2.ensures c.if-not-blocks_fold_to_bases-2.true

pub returns : goal.returns
returns c = let s = c.args.s.now in
    let m = (length s - 16) / 256 * 256 in
    last-decides folds_to_base s m _ (length s - 16) _ _ c.blocks_fold_to_bases.ensures c.if-not-blocks_fold_to_bases.false c.blocks_fold_to_bases-2.ensures c.if-not-blocks_fold_to_bases-2.false (omega (arith, length-rest m s)) (c.all_bytes.ensures.value folds_to_base (search rules))
