-- `text_lines::edit::edit_line` meets its contract. Assumes nothing.
use native.Mathlib.Omega.{arith}
use borrow.Author.Rules.{rules}
use Rattle.text_lines.proofs.Editing.{edit-moves, edit-all, edit-full, edit-answered}
use Rattle.text_lines.proofs.edit.edit_line.Goals as goal

pub returns-then-taken-input : goal.returns-then-taken-input
returns-then-taken-input c =
    let gather = c.gather-held in
    record { held_le_line_room = gather.ensures.held_le_line_room.0; moves = edit-moves _ _ _ _ _ gather.ensures.gathers _; taken_nonzero = λ n z. cc; full = λ z. edit-all _ _ _ _ _ gather.ensures.gathers c.args.out.now c.if-taken-input.true }

pub returns-in-Err : goal.returns-in-Err
returns-in-Err c =
    let gather = c.gather-held in
    let full = edit-full _ _ _ _ _ gather.ensures.gathers _ c.if-taken-input.false _ c.answer_line.ensures.out_after _ c.in-Err.ensures.value in
    record { held_le_line_room = gather.ensures.held_le_line_room.0; moves = full.0; taken_nonzero = λ n z. cc; full = λ z. full.1 }

pub returns-in-Ok : goal.returns-in-Ok
returns-in-Ok c =
    record { held_le_line_room = search rules; moves = edit-answered _ _ _ _ _ c.gather-held.ensures.gathers _ c.if-taken-input.false _ c.answer_line.ensures.out_after _ c.in-Ok.ensures.value; taken_nonzero = λ n z. omega arith; full = λ z. cc }
