-- `translation::are_letters` meets its contract: bases are letters. Assumes nothing.
use mathlib.Core.Path.{sym}
use Rattle.translation.proofs.Answers.{each-letter}
use Rattle.translation.proofs.bases.are_letters.Goals as goal

pub returns-then-plain : goal.returns-then-plain
returns-then-plain c = sym (each-letter c.args.s.now (c.requires c.if-plain.true))
