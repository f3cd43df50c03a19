-- `text_forms::position::parse_range` meets its contract. Assumes nothing.
use borrow.Author.Rules.{rules}
use Rattle.text_forms.proofs.Positions.{range-not, range-end, range-one, range-half, range-two}
use Rattle.text_forms.proofs.position.parse_range.Goals as goal
use Rattle.text_forms.proofs.position.parse_range.Goals.{then-line-next-via-then-line-next, then-line-next-via-else-line-next+then-line-next-ne95}

pub returns-in_err-start-clause-result_value : goal.returns-in_err-start-clause-result_value
returns-in_err-start-clause-result_value c =
    let e = range-not c.args.line.now _ c.parse_position.ensures.result_value c.in_err-start.was in search rules

pub returns-then-line-next-clause-result_value : goal.returns-then-line-next-clause-result_value
returns-then-line-next-clause-result_value c =
    elim c.then-line-next.branch [
      | then-line-next-via-then-line-next w ↦ range-end c.args.line.now _ c.parse_position.ensures.result_value _ c.in_ok-start.was w.if-line-next.true
      | then-line-next-via-else-line-next+then-line-next-ne95 w ↦ range-one c.args.line.now _ c.parse_position.ensures.result_value _ c.in_ok-start.was w.if-line-next.false w.if-line-next-ne95.true
    ]

pub returns-in_err-end-clause-result_value : goal.returns-in_err-end-clause-result_value
returns-in_err-end-clause-result_value c =
    let e = range-half c.args.line.now _ c.parse_position.ensures.result_value _ c.in_ok-start.was c.if-line-next.false c.if-line-next-ne95.false _ c.parse_position-2.ensures.result_value c.in_err-end.was in search rules

pub returns-clause-result_value : goal.returns-clause-result_value
returns-clause-result_value c = range-two c.args.line.now _ c.parse_position.ensures.result_value _ c.in_ok-start.was c.if-line-next.false c.if-line-next-ne95.false _ c.parse_position-2.ensures.result_value _ c.in_ok-end.was
