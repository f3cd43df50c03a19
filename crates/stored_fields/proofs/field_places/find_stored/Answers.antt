-- `stored_fields::field_places::find_stored` meets its contract. Assumes nothing.
use mathlib.Core.Path.{sym, ◌∙◌}
use Rattle.reference.proofs.Judging.{number_some, exit-told}
use Rattle.stored_fields.proofs.Reading.{refuses, refused_fields, no-letters, refused-places}
use Rattle.stored_fields.proofs.field_places.find_stored.Goals as goal

pub returns-in_err-fields_refusal : goal.returns-in_err-fields_refusal
returns-in_err-fields_refusal c =
    let s = c.args.s.now in
    rw (exit-told _ _ c.from_residual.ensures.1) (refuses s _ _ (refused_fields s _ c.in_err-fields_refusal.ensures (number_some _)))

pub returns-in_default : goal.returns-in_default
returns-in_default c =
    let s = c.args.s.now in
    refuses s _ _ (no-letters s (sym c.in_ok-fields_refusal.ensures) (sym c.in_default.is ∙ c.content_of.ensures))

pub places_of-places-requires : goal.places_of-places-requires
places_of-places-requires c = record { s_value = sym c.in_ok-fields_refusal.ensures; letters_value = c.in-Some.ensures }

pub returns-in_err-places_refusal : goal.returns-in_err-places_refusal
returns-in_err-places_refusal c =
    let s = c.args.s.now in
    let places = c.places_of-places in
    rw (exit-told _ _ c.from_residual-in_err-places_refusal.ensures.1)
    (refuses s _ _ (refused-places s places.result places.ensures _ c.in_err-places_refusal.ensures (number_some _)))

pub stored_at-requires : goal.stored_at-requires
stored_at-requires c = record { stand = c.places_of-places.ensures; p_value = sym c.in_ok-places_refusal.ensures }
