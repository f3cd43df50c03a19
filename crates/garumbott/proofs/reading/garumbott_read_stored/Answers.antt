-- `garumbott::reading::garumbott_read_stored` meets its contract. Assumes nothing.
use mathlib.Core.Path.{ap, ◌∙◌}
use lib.ListN.{length}
use Rattle.rules.specs.Refusals.{told}
use Rattle.garumbott.proofs.Keeping.{told-refused, told-placed, placed-fits}
use Rattle.garumbott.proofs.reading.garumbott_read_stored.Goals as goal

pub placed-requires : goal.placed-requires
placed-requires c =
    let a = c.args in
    placed-fits (length a.joined.now) a.«data».now (told c.read_stored.result) c.read_stored.ensures.reads c.in-Ok.p (ap told c.in-Ok.is)

pub returns-in-Err : goal.returns-in-Err
returns-in-Err c =
    let a = c.args in
    record { value = c.refused.ensures ∙ told-refused (length a.joined.now) a.«data».now (told c.read_stored.result) c.read_stored.ensures.reads _ (ap told c.in-Err.is); joined_after = c.read_stored.ensures.joined_after }

pub returns-in-Ok : goal.returns-in-Ok
returns-in-Ok c =
    let a = c.args in
    record { value = c.placed.ensures ∙ told-placed (length a.joined.now) a.«data».now (told c.read_stored.result) c.read_stored.ensures.reads c.in-Ok.p (ap told c.in-Ok.is); joined_after = c.read_stored.ensures.joined_after }
