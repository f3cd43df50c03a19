-- `text_gather::gather` meets its contract. Assumes nothing.
use native.Mathlib.Omega.{arith}
use Rattle.text_gather.proofs.Gathering.{gathers}
use Rattle.text_gather.proofs.gather.Goals as goal

pub returns : goal.returns
returns c =
    let args = c.args in
    let pre = c.requires in
    let find = c.find-end in
    let hold = c.hold in
    record { gathers = gathers args.line.now hold.new.line args.input.now args.held hold.result find.result pre.0 pre.1 find.ensures.value find.ensures.bound hold.ensures.line_after; held_le_line_room = (omega (arith, hold.ensures.upper_bound, pre.0), omega (arith, hold.auto, pre.0)) }
