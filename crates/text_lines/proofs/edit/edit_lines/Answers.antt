-- `text_lines::edit::edit_lines` meets its contract: at the head of each turn, what is taken is answered. Assumes nothing.
use Rattle.std.specs.Prelude.{unwrap_or}
use mathlib.Core.Path.{refl, ap, ◌∙◌}
use Prim.Native.Nat.{◌-◌}
use native.Mathlib.Omega.{arith}
use borrow.Rule.Slice.PartMut.{same_len_mid}
use lib.ListN.{length}
use Rattle.text_lines.proofs.Editing.{going, turned, stopped}
use Rattle.text_lines.proofs.edit.edit_lines.Goals as goal

pub loop-taken-init : goal.loop-taken-init
loop-taken-init c =
    let pre = c.requires in
    (going _ _ _ _ _ _ _ pre.line_len.0 pre.line_len.1 pre.ample (omega (arith, c.well_formed)) (omega (arith, c.well_formed)), record { of-line = refl; of-transcript = refl; of-altered = refl; of-out = refl })

pub returns-in_default : goal.returns-in_default
returns-in_default c =
    let edit-line = c.edit_line-turn in
    record { held_le_line_room = edit-line.ensures.held_le_line_room; steps = stopped _ _ _ _ _ _ _ _ _ _ _ c.loop-taken.invariant.0 edit-line.result.held _ _ edit-line.new.line _ edit-line.ensures.moves (ap (λ o. unwrap_or o 0) c.in_default.is) (edit-line.ensures.full c.in_default.is) }

pub loop-taken-preserved : goal.loop-taken-preserved
loop-taken-preserved c =
    let edit-line = c.edit_line-turn in
    let same = c.loop-taken.invariant.1 in (
      turned _ _ _ _ _ _ _ _ _ _ _ c.loop-taken.invariant.0 edit-line.result.held _ _ edit-line.new.line _ edit-line.ensures.moves _ (ap (λ o. unwrap_or o 0) c.in-Some.is) edit-line.ensures.held_le_line_room edit-line.auto.line edit-line.new.transcript edit-line.new.altered edit-line.auto.transcript edit-line.auto.altered,
      record { of-line = edit-line.auto.line ∙ same.of-line; of-transcript = edit-line.auto.transcript ∙ same.of-transcript; of-altered = edit-line.auto.altered ∙ same.of-altered; of-out = same_len_mid c.loop-taken.used (length c.loop-taken.out - c.loop-taken.used) c.loop-taken.out edit-line.new.out edit-line.auto.out ∙ same.of-out },
    )
