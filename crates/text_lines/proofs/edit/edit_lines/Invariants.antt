use Prim.Native.Nat.{◌-◌}
use lib.ListN.{length, take}
use Rattle.rules.specs.Views.{bare}
use Rattle.text_answers.specs.Stage.{editing}
use Rattle.text_lines.proofs.Editing.{Going, Same}
use Rattle.text_lines.proofs.edit.edit_lines.Given as goal

abbrev pub invariant-loop-taken : goal.invariant-loop-taken
invariant-loop-taken l =
    Going (editing (bare l.letters l.known.cds) (take l.initial.held l.initial.line)) (bare l.letters l.known.cds) l.input l.initial.out l.line l.out l.held l.taken l.used l.transcript l.altered
    × Same l.initial.line l.initial.transcript l.initial.altered l.initial.out l.line l.transcript l.altered l.out

abbrev pub decreases-loop-taken : goal.decreases-loop-taken
decreases-loop-taken l = length l.input - l.taken
