-- `walks::write_to_stop` meets its contract. The invariant: writing what is left gives the protein, no exception stands between codon i
-- and the next that is known, and i codons were looked up. Assumes nothing.
use Prim.Native.Nat.{◌+◌}
use native.Mathlib.Omega.{arith}
use Rattle.rules.specs.Translation.{exception_list}
use Rattle.excepted.proofs.Putting.{next_clear}
use Rattle.walks.proofs.Walks.{read_at, walk_start, walk_more, walk-stop, walk_end}
use mathlib.Core.Path.{refl, ◌∙◌}
use lib.ListN.{length-set}
use Rattle.walks.proofs.write_to_stop.Goals as goal

pub loop-i-init : goal.loop-i-init
loop-i-init g c = let es = exception_list c.args.e in
    record {
      clear = next_clear es 0 (c.args.whole + 1) c.next_exception-next.result (omega arith) c.next_exception-next.ensures;
      walk = λ t s reads. walk_start t es s c.args.out.now;
      counted = refl;
      same = refl;
    }

pub returns-then-turn-eq42-clause-walked_to : goal.returns-then-turn-eq42-clause-walked_to
returns-then-turn-eq42-clause-walked_to g c = λ t s reads.
    let es = exception_list c.args.e in
    let loop = c.loop-i in
    let is = read_at t es s c.args.whole loop.i c.read.result _ reads c.loop-i-test.true c.read.ensures c.turn_at-turn.ensures.residue_value in
    walk-stop t es s _ c.args.out.now loop.out loop.i _ (loop.invariant.walk t s reads) (omega (arith, reads.many)) (omega arith) is c.if-turn-eq42.true

pub loop-i-preserved : goal.loop-i-preserved
loop-i-preserved g c = let es = exception_list c.args.e in
    let loop = c.loop-i in
    record {
      clear = c.turn_at-turn.ensures.clear;
      walk = λ t s reads.
          let is = read_at t es s c.args.whole loop.i c.read.result _ reads c.loop-i-test.true c.read.ensures c.turn_at-turn.ensures.residue_value in
          walk_more t es s _ c.args.out.now loop.out loop.i _ (loop.invariant.walk t s reads) (omega (arith, reads.many)) (omega arith) is c.if-turn-eq42.false;
      counted = omega arith;
      same = length-set loop.out loop.i c.turn_at-turn.result.residue ∙ loop.invariant.same;
    }

pub returns-clause-walked_to : goal.returns-clause-walked_to
returns-clause-walked_to g c = λ t s reads.
    rw reads.many (walk_end t (exception_list c.args.e) s _ c.args.out.now c.loop-i.out c.loop-i.i (c.loop-i.invariant.walk t s reads) (omega (arith, reads.many)))
