-- `text_run::write_lines` meets its contract. Assumes nothing.
use Rattle.text_run.proofs.Counting.{wrote}
use Rattle.text_run.proofs.write_lines.Goals as goal

pub returns : goal.returns
returns c =
    let args = c.args in
    let step = c.step in
    record { keeps = step.ensures.still_keeps; wrote = wrote _ args.line.now args.letters.now c.start.ensures _ _ _ c.requires.input_in_bounds _ _ _ step.ensures.steps }
