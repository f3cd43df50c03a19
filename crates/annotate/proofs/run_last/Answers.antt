-- `annotate::run_last` is safe: what `finish` puts out has room. Assumes nothing.
use mathlib.Core.Path.{sym}
use native.Mathlib.Omega.{arith}
use lib.Seq.{length-take-le}
use Rattle.text_lines.proofs.Last.{last_within}
use Rattle.annotate.proofs.run_last.Goals as goal

pub slice_bounds-send-end : goal.slice_bounds-send-end
slice_bounds-send-end c = omega (arith, last_within _ _ _ c.in-Ok.ensures.value, c.finish.auto.out)

pub slice_bounds-send-end-2 : goal.slice_bounds-send-end-2
slice_bounds-send-end-2 c = sym (length-take-le _ _ (omega (arith, last_within _ _ _ c.in-Ok.ensures.value, c.finish.auto.out)))
