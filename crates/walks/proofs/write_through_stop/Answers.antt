-- `translation::write_through_stop` meets its contract: the walk, and the X where it met no stop and bytes remain.
-- Assumes nothing.
use Prim.Native.Nat.{◌/◌, ◌%◌}
use native.Mathlib.Omega.{arith}
use lib.ListN.{length}
use Rattle.rules.specs.Translation.{exception_list, residue_count}
use Rattle.places.proofs.Residues.{no-rest, with_rest}
use Rattle.walks.proofs.Walks.{looked-stop, looked-end}
use Rattle.walks.proofs.write_through_stop.Goals as goal

pub returns-then-stop-whole : goal.returns-then-stop-whole
returns-then-stop-whole c = let args = c.args in
    let walk = c.write_walk-walk in
    let done = walk.ensures.walked_to.stopped c.if-stop-whole.true in
    record { residues_value = done.0; written = done.1; looked = looked-stop args.table (exception_list args.e) args.seq.now walk.result.stop walk.result.looked walk.ensures.counted done.0 }

pub bounds-out-whole : goal.bounds-out-whole
unfolding residue_count
bounds-out-whole c = omega (arith, c.if-seq-ne0.true, c.write_walk-walk.auto.out, c.requires.room)

pub returns-then-seq-ne0 : goal.returns-then-seq-ne0
unfolding residue_count
returns-then-seq-ne0 c = let args = c.args in
    let write-walk = c.write_walk-walk in
    let if2 = c.if-seq-ne0 in
    let n = length args.seq.now in
    let done = write-walk.ensures.walked_to.ended c.if-stop-whole.false in
    record { residues_value = omega (arith, done.0, if2.true); written = with_rest (n / 3) (n % 3) _ _ done.1 if2.true (omega (arith, if2.true, write-walk.auto.out, c.requires.room)); looked = looked-end args.table (exception_list args.e) args.seq.now write-walk.result.stop write-walk.result.looked write-walk.ensures.counted c.if-stop-whole.false done.0 }

pub returns : goal.returns
returns c = let args = c.args in
    let if2 = c.if-seq-ne0 in
    let n = length args.seq.now in
    let write-walk = c.write_walk-walk in
    let done = write-walk.ensures.walked_to.ended c.if-stop-whole.false in
    record { residues_value = omega (arith, done.0, if2.false); written = no-rest (n / 3) (n % 3) _ _ done.1 if2.false; looked = looked-end args.table (exception_list args.e) args.seq.now write-walk.result.stop write-walk.result.looked write-walk.ensures.counted c.if-stop-whole.false done.0 }
