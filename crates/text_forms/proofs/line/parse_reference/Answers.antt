-- `text_forms::line::parse_reference` meets its contract. Assumes nothing.
use mathlib.Core.Path.{sym, ◌∙◌}
use borrow.Author.Rules.{rules}
use Rattle.rules.specs.Bytes.{bytes}
use Rattle.text_verbs.proofs.Verbs.{starts_long}
use Rattle.text_forms.proofs.References.{reference-not, reference-no-cs, reference-no-ce, reference-no-table, reference-no-letters, reference-is}
use Rattle.text_forms.proofs.line.parse_reference.Goals as goal

pub returns-then-not-starts_with-clause-result_value : goal.returns-then-not-starts_with-clause-result_value
returns-then-not-starts_with-clause-result_value c = reference-not c.args.line.now _ c.starts_with.ensures c.if-not-starts_with.true

pub parse_spaced-requires : goal.parse_spaced-requires
parse_spaced-requires c = starts_long (bytes "ref ") c.args.line.now (sym c.starts_with.ensures ∙ c.if-not-starts_with.false)

pub returns-in_err-cs-clause-result_value : goal.returns-in_err-cs-clause-result_value
returns-in_err-cs-clause-result_value c =
    let e = reference-no-cs c.args.line.now _ c.starts_with.ensures c.if-not-starts_with.false _ c.parse_spaced.ensures.result_value c.in_err-cs.was in search rules

pub returns-in_err-ce-clause-result_value : goal.returns-in_err-ce-clause-result_value
returns-in_err-ce-clause-result_value c =
    let e = reference-no-ce c.args.line.now _ c.starts_with.ensures c.if-not-starts_with.false _ c.parse_spaced.ensures.result_value _ c.in_ok-cs.was _ c.parse_spaced-2.ensures.result_value c.in_err-ce.was in search rules

pub returns-in_err-table-clause-result_value : goal.returns-in_err-table-clause-result_value
returns-in_err-table-clause-result_value c =
    let e = reference-no-table c.args.line.now _ c.starts_with.ensures c.if-not-starts_with.false _ c.parse_spaced.ensures.result_value _ c.in_ok-cs.was _ c.parse_spaced-2.ensures.result_value _ c.in_ok-ce.was _ c.parse_spaced-3.ensures.result_value c.in_err-table.was in search rules

pub returns-then-not-are_capitals-clause-result_value : goal.returns-then-not-are_capitals-clause-result_value
returns-then-not-are_capitals-clause-result_value c =
    reference-no-letters c.args.line.now _ c.starts_with.ensures c.if-not-starts_with.false _ c.parse_spaced.ensures.result_value _ c.in_ok-cs.was _ c.parse_spaced-2.ensures.result_value _ c.in_ok-ce.was _ c.parse_spaced-3.ensures.result_value _ c.in_ok-table.was _ c.are_capitals.ensures c.if-not-are_capitals.true

pub returns-clause-result_value : goal.returns-clause-result_value
returns-clause-result_value c =
    reference-is c.args.line.now _ c.starts_with.ensures c.if-not-starts_with.false _ c.parse_spaced.ensures.result_value _ c.in_ok-cs.was _ c.parse_spaced-2.ensures.result_value _ c.in_ok-ce.was _ c.parse_spaced-3.ensures.result_value _ c.in_ok-table.was _ c.are_capitals.ensures c.if-not-are_capitals.false
