use mathlib.Core.Path.{◌≡◌}
use Prim.Native.Nat.{◌-◌}
use lib.ListN.{length}
use Rattle.text_run.specs.Runs.{Counted}
use Rattle.text_run.proofs.Counting.{Turning}
use Rattle.text_run.proofs.count_lines.Given as goal

abbrev pub invariant-loop-at : goal.invariant-loop-at
invariant-loop-at l =
    Counted l.state l.input l.line l.letters l.protein l.at l.total l.most × Turning l.input l.piece l.initial.line l.initial.letters l.initial.protein l.line l.letters l.protein × (length l.piece ≡ length l.initial.piece)

abbrev pub decreases-loop-at : goal.decreases-loop-at
decreases-loop-at l = length l.input - l.at
