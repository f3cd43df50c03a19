-- `differences::count_differences` meets its contract. The invariant: those counted and those left are all, and the next one is codon n.
use native.Mathlib.Omega.{arith}
use Rattle.alike.specs.Reading.{edition_of}
use Rattle.skips.proofs.Walking.{counted, all-counted}
use Rattle.differences.proofs.count_differences.Goals as goal

pub loop-n-preserved : goal.loop-n-preserved
loop-n-preserved c =
    let a = c.args in
    let loop = c.loop-n in
    let inside = c.loop-n-test.true in
    let next = c.next_difference-n-in-loop-n in
    let x = next.ensures in (
      omega (arith, x.from),
      x.within,
      omega (arith, x.from, loop.invariant.2),
      counted (edition_of a.first.now a.r) (edition_of a.second.now a.s) a.past loop.n next.result loop.count _ inside (loop.invariant.4 inside) x loop.invariant.3,
      x.differs,
    )

pub returns : goal.returns
returns c =
    let a = c.args in
    let loop = c.loop-n in
    record { value = all-counted (edition_of a.first.now a.r) (edition_of a.second.now a.s) a.past loop.n loop.count _ c.loop-n-test.false loop.invariant.3; few = omega (arith, loop.invariant.1, loop.invariant.2) }
