use mathlib.Core.Path.{◌≡◌}
use Prim.Native.Nat.{◌-◌}
use lib.ListN.{length}
use Rattle.text_lines.specs.Memory.{stage_of}
use Rattle.annotate.proofs.Turning.{Reached}
use Rattle.annotate.proofs.run_piece.Given as goal

abbrev pub invariant-loop-at : goal.invariant-loop-at
invariant-loop-at l =
    Reached (stage_of l.initial.state l.initial.line l.initial.letters) l.state l.input l.line l.letters l.protein l.out l.initial.line l.initial.letters l.initial.protein l.at × (length l.out ≡ length l.initial.out)

abbrev pub decreases-loop-at : goal.decreases-loop-at
decreases-loop-at l = length l.input - l.at
