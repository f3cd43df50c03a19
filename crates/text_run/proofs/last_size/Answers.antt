-- `text_run::last_size` meets its contract. Assumes nothing.
use mathlib.Core.Path.{◌∙◌}
use Rattle.text_run.proofs.Counting.{last-is}
use Rattle.text_run.proofs.last_size.Goals as goal

pub returns : goal.returns
returns c =
    let args = c.args in
    let pre = c.requires in
    c.unwrap_or.ensures ∙ last-is args.state args.line.now args.letters.now args.protein.now pre.keeps _ args.piece.now pre.piece_len c.finish.ensures.value
