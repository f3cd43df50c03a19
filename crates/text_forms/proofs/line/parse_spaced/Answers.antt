-- `text_forms::line::parse_spaced` meets its contract. Assumes nothing.
use borrow.Author.Rules.{rules}
use Rattle.text_forms.proofs.References.{spaced-not, spaced-end, spaced-other, spaced-is}
use Rattle.text_forms.proofs.line.parse_spaced.Goals as goal
use Rattle.text_forms.proofs.line.parse_spaced.Goals.{then-line-next-via-then-line-next, then-line-next-via-else-line-next+then-line-next-ne32}

pub returns-in_err-value-clause-result_value : goal.returns-in_err-value-clause-result_value
returns-in_err-value-clause-result_value c =
    let e = spaced-not c.args.line.now c.args.at _ c.parse_number.ensures.result_value c.in_err-value.was in search rules

pub returns-then-line-next-clause-result_value : goal.returns-then-line-next-clause-result_value
returns-then-line-next-clause-result_value c =
    elim c.then-line-next.branch [
      | then-line-next-via-then-line-next w ↦ spaced-end c.args.line.now c.args.at _ c.parse_number.ensures.result_value _ c.in_ok-value.was w.if-line-next.true
      | then-line-next-via-else-line-next+then-line-next-ne32 w ↦ spaced-other c.args.line.now c.args.at _ c.parse_number.ensures.result_value _ c.in_ok-value.was w.if-line-next.false w.if-line-next-ne32.true
    ]

pub returns-clause-result_value : goal.returns-clause-result_value
returns-clause-result_value c = spaced-is c.args.line.now c.args.at _ c.parse_number.ensures.result_value _ c.in_ok-value.was c.if-line-next.false c.if-line-next-ne32.false
