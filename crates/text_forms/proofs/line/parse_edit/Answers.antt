-- `text_forms::line::parse_edit` meets its contract. Assumes nothing.
use borrow.Author.Rules.{rules}
use Rattle.text_forms.proofs.Edits.{edit-no-range, edit-no-verb, edit-is}
use Rattle.text_forms.proofs.line.parse_edit.Goals as goal

pub returns-in_err-range-clause-result_value : goal.returns-in_err-range-clause-result_value
returns-in_err-range-clause-result_value c =
    let e = edit-no-range c.args.line.now _ c.parse_range.ensures.result_value c.in_err-range.was in search rules

pub returns-in_err-verb-clause-result_value : goal.returns-in_err-verb-clause-result_value
returns-in_err-verb-clause-result_value c =
    let e = edit-no-verb c.args.line.now _ c.parse_range.ensures.result_value _ c.in_ok-range.was _ c.parse_verb.ensures.result_value c.in_err-verb.was in search rules

pub returns-clause-result_value : goal.returns-clause-result_value
returns-clause-result_value c = edit-is c.args.line.now _ c.parse_range.ensures.result_value _ c.in_ok-range.was _ c.parse_verb.ensures.result_value _ c.in_ok-verb.was
