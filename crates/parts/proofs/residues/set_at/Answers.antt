-- `parts::residues::set_at` meets its contract. Assumes nothing.
use mathlib.Core.Path.{ap, ◌∙◌}
use Rattle.rules.specs.Letters.{letter_set}
use Rattle.parts.proofs.Places.{some-set}
use Rattle.parts.proofs.residues.set_at.Goals as goal

pub returns : goal.returns
returns c =
    let a = c.args in
    let is = c.letter_set.ensures.value ∙ ap letter_set c.letter_at.ensures in
    record { value = is; some = some-set a.a.now a.b.now a.c.now a.i c.letter_set.result c.requires.i_in_bounds c.requires.c_value is c.letter_set.ensures.small }
