-- `prefixes::equal_blocks` meets its contract. The invariant: what is passed is equal. Assumes nothing.
use mathlib.Core.Path.{sym, ◌∙◌}
use Prim.Native.Nat.{◌*◌}
use native.Mathlib.Omega.{arith}
use lib.ListN.{drop}
use Rattle.prefixes.proofs.Prefixes.{first_part, differ_in, few_left}
use Rattle.prefixes.proofs.equal_blocks.Goals as goal

pub returns-then-not-same_eights-clause-few : goal.returns-then-not-same_eights-clause-few
returns-then-not-same_eights-clause-few g c =
    let args = c.args in
    let i = c.loop-i.i in
    differ_in (g.row.N * 8) (drop i args.a.now) (drop i args.b.now) (sym c.same_eights.ensures ∙ c.if-not-same_eights.true)

pub loop-i-preserved : goal.loop-i-preserved
loop-i-preserved g c =
    let args = c.args in
    let more = first_part args.a.now args.b.now c.loop-i.i (g.row.N * 8) (omega arith) (omega arith) (sym c.same_eights.ensures ∙ c.if-not-same_eights.false) in
    (omega arith, omega (arith, more, c.loop-i.invariant.1))

pub returns-clause-few : goal.returns-clause-few
returns-clause-few g c =
    let args = c.args in
    few_left args.a.now args.b.now c.loop-i.i (g.row.N * 8) (omega arith) (omega arith)
