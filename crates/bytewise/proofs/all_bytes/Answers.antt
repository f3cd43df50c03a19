-- `bytewise::all_bytes` meets its contract.
use Rattle.std.proofs.Common.{◌∙◌, sym, arith}
use Rattle.rules.proofs.Lists.{all-and, all-and-end}
use Rattle.bytewise.proofs.all_bytes.Goals as goal

pub loop-b-preserved : goal.loop-b-preserved
loop-b-preserved g c p computes =
    all-and p c.args.s.now c.loop-b.b-index c.loop-b.good c.test-good.result c.loop-b-test.true
    (computes _ _ (omega (arith, c.type_inv.s c.loop-b.b-index)) c.test-good.ensures)
    ∙ c.loop-b.invariant p computes

pub returns : goal.returns
returns g c = record {
  value = λ p computes. sym (all-and-end p c.args.s.now c.loop-b.b-index c.loop-b.good c.loop-b-test.false) ∙ c.loop-b.invariant p computes;
}
