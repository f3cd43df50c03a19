-- `text_lines::go_on` meets its contract. Assumes nothing.
use Rattle.text_lines.proofs.Beginning.{on-ended, on-editing, still_keeps}
use Rattle.text_lines.proofs.go_on.Goals as goal

pub returns-in-Editing : goal.returns-in-Editing
returns-in-Editing c =
    let args = c.args in
    let edit-some = c.edit_some-moved in
    record { still_keeps = still_keeps args.begun.state _ _ _ c.in-Editing.is _ _ c.requires.keeps edit-some.ensures.held_le_line_room; steps = on-editing args.begun.state args.line.now args.letters.now args.input.now _ _ args.out.now _ _ c.in-Editing.is edit-some.result.held _ _ edit-some.new.line _ edit-some.ensures.steps }

pub returns-in-Ended : goal.returns-in-Ended
returns-in-Ended c = record { still_keeps = c.requires.keeps; steps = on-ended _ _ _ _ _ _ _ c.in-Ended.is }
