-- `text_forms::position::parse_position` meets its contract. Assumes nothing.
use borrow.Author.Rules.{rules}
use Rattle.text_forms.proofs.Positions.{position_past, position-not, position-is}
use Rattle.text_forms.proofs.position.parse_position.Goals as goal

pub returns-then-line-at-clause-result_value : goal.returns-then-line-at-clause-result_value
returns-then-line-at-clause-result_value c = position_past c.args.line.now c.args.at c.if-line-at.true

pub returns-in_err-number-clause-result_value : goal.returns-in_err-number-clause-result_value
returns-in_err-number-clause-result_value c =
    let e = position-not c.args.line.now c.args.at c.if-line-at.false _ c.signs_of.ensures _ c.parse_number.ensures.result_value c.in_err-number.was in search rules

pub returns-clause-result_value : goal.returns-clause-result_value
returns-clause-result_value c = position-is c.args.line.now c.args.at c.if-line-at.false _ c.signs_of.ensures _ c.parse_number.ensures.result_value _ c.in_ok-number.was _ c.signed_by.ensures
