-- `text_verbs::has_bases` meets its contract. Assumes nothing.
use mathlib.Core.Path.{sym, ◌∙◌}
use borrow.Author.Rules.{rules}
use Rattle.text_verbs.proofs.Verbs.{starts_long}
use Rattle.text_verbs.proofs.has_bases.Goals as goal

pub slice_bounds-are_capitals-count : goal.slice_bounds-are_capitals-count
slice_bounds-are_capitals-count c =
    let h = starts_long c.args.word.now c.args.s.now (sym c.starts_with.ensures ∙ c.if-starts_with.true) in search rules

pub slice_bounds-are_capitals-start : goal.slice_bounds-are_capitals-start
slice_bounds-are_capitals-start c =
    let h = starts_long c.args.word.now c.args.s.now (sym c.starts_with.ensures ∙ c.if-starts_with.true) in search rules
