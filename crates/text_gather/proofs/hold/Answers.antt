-- `text_gather::hold` meets its contract. Assumes nothing.
use Rattle.text_gather.proofs.Gathering.{gathered}
use Rattle.text_gather.proofs.hold.Goals as goal

pub returns : goal.returns
returns c =
    let args = c.args in
    let pre = c.requires in
    let least = c.min-n in
    let copy = c.copy in
    let whole = gathered args.line.now args.part.now args.held least.result pre least.ensures copy.result copy.new.dst copy.ensures.count copy.ensures.after in
    record { line_after = whole.0; upper_bound = whole.1 }
