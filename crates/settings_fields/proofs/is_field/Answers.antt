-- `settings_fields::is_field` meets its contract. Assumes nothing.
use Rattle.settings_fields.proofs.Places.{is_field, no_field}
use Rattle.settings_fields.proofs.is_field.Goals as goal

pub returns-in_default : goal.returns-in_default
returns-in_default c =
    let a = c.args in
    let f = c.next_field in
    no_field a.s.now a.at f.result f.ensures c.in_default.not-Whole a.tag a.len

pub returns : goal.returns
returns c =
    let a = c.args in
    let f = c.next_field in
    is_field a.s.now a.at f.result f.ensures _ _ c.in-Whole.is a.tag a.len
