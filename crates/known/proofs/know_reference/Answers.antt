-- `known::know_reference` meets its contract. Assumes nothing.
use mathlib.Core.Path.{◌∙◌}
use native.Mathlib.Omega.{arith}
use Rattle.rules.specs.Packed.{letters_by}
use Rattle.rules.specs.Views.{reference_of}
use Rattle.rules.proofs.Reference.{protein_read}
use Rattle.reference.specs.Known.{judged_of}
use Rattle.reference.proofs.Judging.{exit-told, was-refused, was-given, readable, accepted-early}
use Rattle.reference.proofs.Checking.{check-refused, check-known}
use Rattle.known.proofs.FirstStop.{known_is}
use Rattle.known.proofs.know_reference.Goals as goal

pub returns-in_err-plain : goal.returns-in_err-plain
unfolding judged_of
returns-in_err-plain c =
    let a = c.args in
    let refused = was-refused _ _ _ c.in_err-plain.ensures in
    exit-told _ _ c.from_residual.ensures.1 ∙ check-refused a.longest a.form (letters_by a.form a.letters.now) a.cds a.e _ refused.0 refused.1

pub overflow_sub-cds : goal.overflow_sub-cds
unfolding judged_of
overflow_sub-cds c =
    let a = c.args in
    let clear = was-given _ _ _ c.in_ok-plain.ensures in
    (readable a.longest (letters_by a.form a.letters.now) a.cds a.e (accepted-early a.longest (letters_by a.form a.letters.now) a.cds a.e clear.0) c.requires).sound.bounds.first

pub overflow_sub-cds-2 : goal.overflow_sub-cds-2
unfolding judged_of
overflow_sub-cds-2 c =
    let a = c.args in
    let clear = was-given _ _ _ c.in_ok-plain.ensures in
    let b = (readable a.longest (letters_by a.form a.letters.now) a.cds a.e (accepted-early a.longest (letters_by a.form a.letters.now) a.cds a.e clear.0) c.requires).sound.bounds in
    omega (arith, b.first, b.rising)

pub stops_early-requires : goal.stops_early-requires
unfolding judged_of
stops_early-requires c =
    let a = c.args in
    let clear = was-given _ _ _ c.in_ok-plain.ensures in
    record { readable = readable a.longest (letters_by a.form a.letters.now) a.cds a.e (accepted-early a.longest (letters_by a.form a.letters.now) a.cds a.e clear.0) c.requires; plain_value = clear.1; reference_protein = protein_read a.longest (reference_of (letters_by a.form a.letters.now) a.cds a.e) clear.0 }

pub returns : goal.returns
unfolding judged_of
returns c =
    let a = c.args in
    let clear = was-given _ _ _ c.in_ok-plain.ensures in
    let b = (readable a.longest (letters_by a.form a.letters.now) a.cds a.e (accepted-early a.longest (letters_by a.form a.letters.now) a.cds a.e clear.0) c.requires).sound.bounds in
    check-known a.longest a.form (letters_by a.form a.letters.now) a.cds a.e clear.0 _
    (known_is a.form (letters_by a.form a.letters.now) a.cds a.e c.thirds.result _ c.stops_early.result b.first c.thirds.ensures clear.1 c.stops_early.ensures)
