-- `text_lines::begin` meets its contract. Assumes nothing.
use Rattle.text_lines.proofs.Beginning.{begins-none, fills-behind}
use Rattle.text_lines.proofs.begin.Goals as goal

pub returns-in_default : goal.returns-in_default
returns-in_default c = record { still_keeps = c.requires.keeps; begins = begins-none _ _ _ _ _ c.requires.rooms.for-line c.in_default.not-Opening; fills = fills-behind c.args.state c.args.line.now c.args.letters.now c.args.input.now c.args.out.now _ c.in_default.not-Opening }
