-- `edits::plans::keep_length` meets its contract. Assumes nothing.
use Prim.Native.Nat.{◌≤◌}
use native.Mathlib.Omega.{arith}
use lib.ListN.{length}
use Rattle.rules.specs.Reference.{size}
use Rattle.rules.specs.Views.{bare}
use Rattle.edits.proofs.Planning.{keeps-plan}
use Rattle.edits.proofs.plans.keep_length.Goals as goal

pub returns : goal.returns
unfolding size
returns c =
    let a = c.args in
    λ s d e long h k.
    let fits : a.range.end ≤ length s = omega (arith, long, c.requires.1) in
    rw (← long) (keeps-plan (bare s d) e a.range a.source h fits a.number k)
