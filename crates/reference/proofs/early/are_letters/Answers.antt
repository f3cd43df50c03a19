-- `reference::early::are_letters` meets its contract. Assumes nothing.
use mathlib.Core.Path.{sym, ◌∙◌}
use Rattle.places.proofs.Strict.{bases_are_letters}
use Rattle.rules.specs.Packed.{letters_by}
use Rattle.reference.proofs.early.are_letters.Goals as goal

pub returns-then-plain : goal.returns-then-plain
returns-then-plain c =
    c.if-plain.true ∙ sym (bases_are_letters (letters_by c.args.form c.args.letters.now) (sym c.requires.plain_value ∙ c.if-plain.true))
