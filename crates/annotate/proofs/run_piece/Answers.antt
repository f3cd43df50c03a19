-- `annotate::run_piece` meets its contract: each step takes something, since the output has room for any answer. Assumes nothing.
use mathlib.Core.Path.{refl, ◌∙◌}
use native.Mathlib.Omega.{arith}
use Rattle.annotate.proofs.Turning.{written, reached_none, falls, reached-on}
use Rattle.annotate.proofs.run_piece.Goals as goal

pub loop-at-init : goal.loop-at-init
loop-at-init c = let pre = c.requires in
    (reached_none _ _ _ _ _ _ pre.rooms pre.keeps pre.out_len (omega (arith, c.well_formed)), refl)

pub loop-at-smaller : goal.loop-at-smaller
loop-at-smaller c =
    let put = c.put_some in
    falls _ _ _ _ _ _ _ _ _ _ _ c.loop-at.invariant.0 put.new.state put.new.line put.new.letters _ _ _ (written _ _ _ _ _ _ c.in_ok-taken.ensures.steps).1 c.loop-at-test.true

pub loop-at-preserved : goal.loop-at-preserved
loop-at-preserved c =
    let put = c.put_some in (
      reached-on _ _ _ _ _ _ _ _ _ _ _ c.loop-at.invariant.0 put.new.state put.new.line put.new.letters put.new.out _ _ (written _ _ _ _ _ _ c.in_ok-taken.ensures.steps).1 put.new.protein
          put.ensures.still_keeps put.auto.line put.auto.letters put.auto.protein put.auto.out,
      put.auto.out ∙ c.loop-at.invariant.1,
    )
