-- `parts::early::are_letters` meets its contract. Assumes nothing.
use mathlib.Core.Path.{sym, ◌∙◌}
use Rattle.places.proofs.Strict.{bases_are_letters}
use Rattle.parts.proofs.early.are_letters.Goals as goal

pub returns-then-all_bases : goal.returns-then-all_bases
returns-then-all_bases c = sym (bases_are_letters c.args.s.now (sym c.all_bases.ensures ∙ c.if-all_bases.true))
