-- `translation::write_left` meets its contract. The invariant: writing the residues that are left gives the whole. Assumes nothing.
use mathlib.Core.List.{[]}
use Prim.Native.Nat.{◌/◌, ◌%◌}
use native.Mathlib.Omega.{arith}
use lib.ListN.{length, length-set}
use Rattle.rules.specs.Translation.{residue_count}
use Rattle.places.proofs.Residues.{codon-turn, last_turn, no-rest, with_rest}
use Rattle.translation.proofs.reading.write_left.Goals as goal

pub bounds-out-i : goal.bounds-out-i
unfolding residue_count
bounds-out-i g c = omega (arith, c.requires.room)

pub bounds-out-whole : goal.bounds-out-whole
unfolding residue_count
bounds-out-whole g c = omega (arith, c.requires.room)

pub loop-i-preserved : goal.loop-i-preserved
unfolding residue_count
loop-i-preserved g c = let args = c.args in
    let loop = c.loop-i in (
      simp length-set loop.invariant.0,
      codon-turn args.table args.seq.now loop.i loop.out _ _ (omega arith) (omega (arith, c.requires.room)) (c.requires.reads loop.i _ (omega arith) c.read.ensures) loop.invariant.1,
    )

pub returns-then-seq-ne0 : goal.returns-then-seq-ne0
unfolding residue_count
returns-then-seq-ne0 g c = let args = c.args in
    let loop = c.loop-i in
    let n = length args.seq.now in
    with_rest (n / 3) (n % 3) loop.out _ (last_turn args.table args.seq.now loop.i loop.out _ [] (omega arith) loop.invariant.1) c.if-seq-ne0.true (omega (arith, c.requires.room))

pub returns : goal.returns
returns g c = let args = c.args in
    let loop = c.loop-i in
    let n = length args.seq.now in
    no-rest (n / 3) (n % 3) loop.out _ (last_turn args.table args.seq.now loop.i loop.out _ [] (omega arith) loop.invariant.1) c.if-seq-ne0.false
