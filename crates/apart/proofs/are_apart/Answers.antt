-- `apart::are_apart` meets its contract. Assumes nothing.
use Rattle.rules.specs.Views.{bare, asked}
use Rattle.apart.proofs.Ranges.{apart_is}
use Rattle.apart.proofs.are_apart.Goals as goal

pub returns : goal.returns
returns c =
    let a = c.args in
    let one = c.touched-one in
    let two = c.touched-two in
    λ s new bases long. apart_is (bare s a.c) (asked a.edit new) (asked a.other bases) one.result.start one.result.end two.result.start two.result.end (one.ensures.start_by_index s new long) (one.ensures.end_by_index s new long) (two.ensures.start_by_index s bases long) (two.ensures.end_by_index s bases long)
