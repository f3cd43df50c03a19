-- `text_lines::finish_line` meets its contract. Assumes nothing.
use Rattle.text_lines.proofs.Last.{no-room-left, line-finished}
use Rattle.text_lines.proofs.finish_line.Goals as goal

pub returns-then-stepped-eq0 : goal.returns-then-stepped-eq0
returns-then-stepped-eq0 c =
    let args = c.args in
    let pre = c.requires in
    let step = c.step-stepped in
    let done = no-room-left args.state args.line.now args.letters.now args.protein.now args.out.now pre.rooms.for-line pre.keeps pre.some_held _ _ _ _ step.ensures.steps c.if-stepped-eq0.true in
    record { value = done.0; out_after = done.1; fills = step.ensures.fills }

pub returns : goal.returns
returns c =
    let args = c.args in
    let pre = c.requires in
    let step = c.step-stepped in
    let done = line-finished args.state args.line.now args.letters.now args.protein.now args.out.now pre.rooms.for-line pre.keeps pre.some_held _ _ _ _ step.ensures.steps c.if-stepped-eq0.false in
    record { value = done.0; out_after = done.1; fills = step.ensures.fills }
