-- `altered::set_at` meets its contract. Assumes nothing.
use mathlib.Core.Path.{ap, ◌∙◌}
use native.Mathlib.Omega.{arith}
use Rattle.rules.specs.Letters.{letter_set}
use Rattle.altered.proofs.Letters.{some-set}
use Rattle.rules.specs.Packed.{letters_by}
use Rattle.altered.proofs.set_at.Goals as goal

pub returns : goal.returns
returns c =
    let a = c.args in
    let is = c.letter_set.ensures.value ∙ ap letter_set c.letter_at.ensures in
    record { value = is; some = (omega (arith, some-set a.plan (letters_by a.form a.letters.now) a.new.now c.requires.makes a.i c.requires.i_in_bounds), c.letter_set.ensures.small) }
