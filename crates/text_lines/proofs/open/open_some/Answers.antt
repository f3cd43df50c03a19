-- `text_lines::open::open_some` meets its contract. Assumes nothing.
use Rattle.text_lines.proofs.Beginning.{begun_all, begun-keeps, begun-full, opened-begins, opened-keeps, fills-none, fills-line}
use Rattle.text_lines.proofs.open.open_some.Goals as goal

pub returns-then-taken-input : goal.returns-then-taken-input
returns-then-taken-input c =
    let gather = c.gather-n in
    record { keeps = begun-keeps _ _ _ _ _ gather.ensures.gathers _ _ gather.ensures.held_le_line_room.0; begins = begun_all _ _ _ _ _ gather.ensures.gathers _ _ gather.ensures.held_le_line_room.1 c.if-taken-input.true; fills = fills-none gather.result.held _ gather.new.line _ _ gather.ensures.gathers _ _ c.if-taken-input.true }

pub returns-in_default : goal.returns-in_default
returns-in_default c =
    let gather = c.gather-n in
    record { keeps = begun-keeps _ _ _ _ _ gather.ensures.gathers _ _ gather.ensures.held_le_line_room.0; begins = begun-full _ _ _ _ _ gather.ensures.gathers c.if-taken-input.false c.open_line.new.letters c.open_line.new.protein _ _ c.in_default.ensures.put gather.ensures.held_le_line_room.1; fills = fills-line gather.result.held _ gather.new.line _ _ gather.ensures.gathers c.if-taken-input.false _ _ _ _ c.open_line.ensures.fills }

pub returns : goal.returns
returns c =
    let gather = c.gather-n in
    let put = c.in-Some.ensures.put in
    record { keeps = opened-keeps _ _ _ _ _ gather.ensures.gathers c.if-taken-input.false _ _ _ _ _ put _ c.held_behind.ensures gather.ensures.held_le_line_room.0; begins = opened-begins _ _ _ _ _ gather.ensures.gathers c.if-taken-input.false _ _ _ _ _ put _ c.held_behind.ensures gather.ensures.held_le_line_room.1 c.open_line.auto.out; fills = fills-line gather.result.held _ gather.new.line _ _ gather.ensures.gathers c.if-taken-input.false _ _ _ _ c.open_line.ensures.fills }
