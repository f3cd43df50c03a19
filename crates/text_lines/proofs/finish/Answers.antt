-- `text_lines::finish` meets its contract. Assumes nothing.
use Rattle.text_lines.proofs.Beginning.{fills_empty}
use Rattle.text_lines.proofs.Last.{none-held}
use Rattle.text_lines.proofs.finish.Goals as goal

pub returns-then-state-eq0 : goal.returns-then-state-eq0
returns-then-state-eq0 c =
    let args = c.args in
    let pre = c.requires in
    let done = none-held args.state args.line.now args.letters.now args.protein.now args.out.now pre.rooms.for-line pre.keeps c.if-state-eq0.true in
    record { value = done.0; out_after = done.1; fills = fills_empty args.state args.line.now args.letters.now args.protein.now c.if-state-eq0.true }
