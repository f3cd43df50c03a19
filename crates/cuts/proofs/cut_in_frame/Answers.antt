-- `cuts::cut_in_frame` meets its contract. Assumes nothing.
use Rattle.rules.specs.Altered.{part}
use Rattle.rules.specs.Packed.{letters_by}
use Rattle.rules.proofs.Parts.{length_part}
use Rattle.cuts.proofs.Cuts.{cuts_read, cut-found-at, cut-nowhere}
use Rattle.cuts.proofs.cut_in_frame.Goals as goal

pub first_stop_by-stop-requires : goal.first_stop_by-stop-requires
first_stop_by-stop-requires c =
    let a = c.args in
    record { in_letters = c.requires.in_letters; reads = cuts_read a.table a.plain (part a.start a.end (letters_by a.form a.letters.now)) c.no_exceptions.result c.requires.cuts c.no_exceptions.ensures }

pub returns-then-stop-size : goal.returns-then-stop-size
returns-then-stop-size c =
    let a = c.args in
    let none = c.no_exceptions in
    let stop = c.first_stop_by-stop in
    let long = length_part a.start a.end (letters_by a.form a.letters.now) c.requires.in_letters.ends in
    cut-found-at a.table (part a.start a.end (letters_by a.form a.letters.now)) c.requires.cuts.letters none.result none.ensures stop.result stop.ensures (rw long c.if-stop-size.true)

pub returns : goal.returns
returns c =
    let a = c.args in
    let none = c.no_exceptions in
    let stop = c.first_stop_by-stop in
    let long = length_part a.start a.end (letters_by a.form a.letters.now) c.requires.in_letters.ends in
    rw long at (cut-nowhere a.table (part a.start a.end (letters_by a.form a.letters.now)) c.requires.cuts.letters none.result none.ensures stop.result stop.ensures (rw long c.if-stop-size.false))
