-- `translation::write_fours` meets its contract. The invariant: writing the residues that are left gives the whole. Assumes nothing.
use mathlib.Core.Path.{◌≡◌, refl}
use Prim.Native.Nat.{◌+◌, ◌*◌}
use native.Mathlib.Omega.{arith}
use lib.ListN.{length-set}
use Rattle.rules.specs.Translation.{residue_count}
use Rattle.places.proofs.Residues.{four-turn}
use Rattle.translation.proofs.Left.{left-start}
use Rattle.translation.proofs.reading.write_fours.Goals as goal

pub loop-k-init : goal.loop-k-init
loop-k-init g c = let args = c.args in
    (refl, left-start args.table args.seq.now args.out.now)

pub loop-k-preserved : goal.loop-k-preserved
unfolding residue_count
loop-k-preserved g c = let args = c.args in
    let loop = c.loop-k in
    let i = loop.k * 4 in
    let next : (loop.k + 1) * 4 ≡ i + 4 = omega arith in
    let one = c.requires.reads i _ (omega arith) c.pair-one.ensures in
    let two = c.requires.reads (i + 2) _ (omega arith) c.pair-two.ensures in (
      simp length-set loop.invariant.0,
      rw next (four-turn args.table args.seq.now i loop.out _ _ _ _ _ (omega arith) (omega (arith, loop.invariant.0, c.requires.room)) one.0 one.1 two.0 two.1 loop.invariant.1),
    )

pub bounds-out-i : goal.bounds-out-i
unfolding residue_count
bounds-out-i g c = omega (arith, c.requires.room)

pub bounds-out-i-in-loop-k : goal.bounds-out-i-in-loop-k
unfolding residue_count
bounds-out-i-in-loop-k g c = simp length-set (omega (arith, c.requires.room))

pub bounds-out-i-in-loop-k-2 : goal.bounds-out-i-in-loop-k-2
unfolding residue_count
bounds-out-i-in-loop-k-2 g c = simp length-set (omega (arith, c.requires.room))

pub bounds-out-i-in-loop-k-3 : goal.bounds-out-i-in-loop-k-3
unfolding residue_count
bounds-out-i-in-loop-k-3 g c = simp length-set (omega (arith, c.requires.room))
