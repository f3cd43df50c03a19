-- `exceptions::moved_one` meets its contract: each way out is a law of what becomes of one.
use Rattle.exceptions.proofs.Moving.{one-stays, one-cut, one_shifted, one-moves}
use Rattle.exceptions.proofs.moved_one.Goals as goal

pub returns-then-at-prefix : goal.returns-then-at-prefix
returns-then-at-prefix c old new shared =
    let a = c.args in
    one-stays a.prefix a.suffix a.first a.size a.made old new a.x shared c.if-at-prefix.true

pub returns-then-at-size : goal.returns-then-at-size
returns-then-at-size c old new shared =
    let a = c.args in
    one-cut a.prefix a.suffix a.first a.size a.made old new a.x shared c.if-at-prefix.false c.if-at-size.true

pub returns-then-to-first : goal.returns-then-to-first
returns-then-to-first c old new shared =
    let a = c.args in
    one_shifted a.prefix a.suffix a.first a.size a.made old new a.x shared c.if-at-prefix.false c.if-at-size.false c.if-to-first.true

pub returns : goal.returns
returns c old new shared =
    let a = c.args in
    one-moves a.prefix a.suffix a.first a.size a.made old new a.x shared c.if-at-prefix.false c.if-at-size.false c.if-to-first.false
