-- `walks::first_stop_of` meets its contract. The invariant: the first stop from codon i on is the first, and no exception stands between
-- codon i and the next that is known. Assumes nothing.
use mathlib.Core.Path.{sym, ◌∙◌}
use Prim.Native.Nat.{◌+◌}
use native.Mathlib.Omega.{arith}
use Rattle.rules.specs.Translation.{exception_list}
use Rattle.excepted.proofs.Putting.{next_clear}
use Rattle.walks.proofs.Walks.{read_at, stops-all, stops-later, stops-here, stops-none}
use Rattle.walks.proofs.first_stop_of.Goals as goal

pub loop-i-init : goal.loop-i-init
loop-i-init g c = let es = exception_list c.args.e in
    record {
      clear = next_clear es 0 (c.args.whole + 1) c.next_exception-next.result (omega arith) c.next_exception-next.ensures;
      left = λ t s reads. stops-all t es s;
    }

pub returns-then-turn-eq42 : goal.returns-then-turn-eq42
returns-then-turn-eq42 g c = λ t s reads.
    let es = exception_list c.args.e in
    let is = read_at t es s c.args.whole c.loop-i.i c.read.result _ reads c.loop-i-test.true c.read.ensures c.turn_at-turn.ensures.residue_value in
    sym (stops-here t es s c.loop-i.i _ (omega (arith, reads.many)) is c.if-turn-eq42.true) ∙ c.loop-i.invariant.left t s reads

pub loop-i-preserved : goal.loop-i-preserved
loop-i-preserved g c = let es = exception_list c.args.e in
    record {
      clear = c.turn_at-turn.ensures.clear;
      left = λ t s reads.
          let is = read_at t es s c.args.whole c.loop-i.i c.read.result _ reads c.loop-i-test.true c.read.ensures c.turn_at-turn.ensures.residue_value in
          sym (stops-later t es s c.loop-i.i _ (omega (arith, reads.many)) is c.if-turn-eq42.false) ∙ c.loop-i.invariant.left t s reads;
    }

pub returns : goal.returns
returns g c = λ t s reads. omega (arith, reads.many, stops-none t (exception_list c.args.e) s c.loop-i.i (omega (arith, reads.many)), c.loop-i.invariant.left t s reads)
