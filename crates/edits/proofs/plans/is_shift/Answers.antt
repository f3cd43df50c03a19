-- `edits::plans::is_shift` meets its contract. Assumes nothing.
use mathlib.Core.Path.{◌∙◌}
use Rattle.rules.specs.Altered.{part}
use Rattle.rules.specs.Packed.{letters_by}
use Rattle.rules.specs.Views.{bare}
use Rattle.edits.proofs.Planning.{shift-compared, shift_none}
use Rattle.edits.proofs.plans.is_shift.Goals as goal

pub returns-then-uneven-leaves : goal.returns-then-uneven-leaves
unfolding part
returns-then-uneven-leaves c =
    let a = c.args in
    λ e h. shift-compared (bare (letters_by a.form a.letters.now) a.c) e a.range a.new.now h c.same_by.result c.if-uneven-leaves.true c.same_by.ensures

pub returns-else-uneven-leaves : goal.returns-else-uneven-leaves
returns-else-uneven-leaves c =
    let a = c.args in
    λ e h. c.if-uneven-leaves.false ∙ shift_none (bare (letters_by a.form a.letters.now) a.c) e a.range a.new.now h c.if-uneven-leaves.false
