-- `text_verbs::parse_base_verb` meets its contract. Assumes nothing.
use borrow.Author.Rules.{rules}
use Rattle.text_verbs.proofs.Verbs.{base-delins, base-ins, base-arrow, base-none}
use Rattle.text_verbs.proofs.parse_base_verb.Goals as goal

pub returns-then-has_bases : goal.returns-then-has_bases
returns-then-has_bases c =
    let whole = base-delins c.args.line.now c.args.at _ c.has_bases.ensures c.requires c.if-has_bases.true in
    record { result_value = whole.0; within = whole.1 }

pub returns-then-has_bases-2 : goal.returns-then-has_bases-2
returns-then-has_bases-2 c =
    let whole = base-ins c.args.line.now c.args.at _ c.has_bases.ensures c.if-has_bases.false _ c.has_bases-2.ensures c.requires c.if-has_bases-2.true in
    record { result_value = whole.0; within = whole.1 }

pub returns-then-is_arrow : goal.returns-then-is_arrow
returns-then-is_arrow c =
    let whole = base-arrow c.args.line.now c.args.at _ c.has_bases.ensures c.if-has_bases.false _ c.has_bases-2.ensures c.if-has_bases-2.false _ c.is_arrow.ensures c.requires c.if-is_arrow.true in
    record { result_value = whole.0; within = whole.1 }

pub returns : goal.returns
returns c = record { result_value = base-none c.args.line.now c.args.at _ c.has_bases.ensures c.if-has_bases.false _ c.has_bases-2.ensures c.if-has_bases-2.false _ c.is_arrow.ensures c.if-is_arrow.false; within = search rules }
