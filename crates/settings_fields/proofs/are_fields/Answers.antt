-- `settings_fields::are_fields` meets its contract. Assumes nothing.
use mathlib.Core.Path.{◌≡◌}
use mathlib.Core.Bool.{true, false}
use Rattle.rules.specs.Settings.{has_longest}
use Rattle.settings_fields.proofs.Places.{are-four, are-five}
use Rattle.settings_fields.proofs.are_fields.Goals as goal

pub returns-then-has_longest : goal.returns-then-has_longest
returns-then-has_longest c =
    let a = c.args in
    let h : has_longest a.version ≡ true = cc in
    cc (are-five a.s.now a.version h)

pub returns : goal.returns
returns c =
    let a = c.args in
    let h : has_longest a.version ≡ false = cc in
    cc (are-four a.s.now a.version h)
