-- `reference::check_reference` meets its contract. Assumes nothing.
use mathlib.Core.Path.{◌∙◌}
use lib.ListN.{length}
use Rattle.rules.specs.Packed.{letters_by}
use Rattle.reference.specs.Known.{judged_of}
use Rattle.reference.proofs.Judging.{exit-told, was-refused, was-given, readable, protein-room, accepted-early}
use Rattle.reference.proofs.Checking.{check-refused, nothing_read, check-known, all_read}
use Rattle.reference.proofs.check_reference.Goals as goal

pub read_reference-requires : goal.read_reference-requires
unfolding judged_of
read_reference-requires c =
    let a = c.args in
    let pre = c.requires in
    let clear = was-given _ _ _ c.in_ok-plain.ensures in
    let early = accepted-early a.longest (letters_by a.form a.letters.now) a.cds a.e clear.0 in
    record { readable = readable a.longest (letters_by a.form a.letters.now) a.cds a.e early pre.longest_bound; plain_value = clear.1; c_in_bounds = protein-room a.longest (letters_by a.form a.letters.now) a.cds a.e (length a.protein.now) early pre.longest_bound pre.has_room }

pub returns-in_err-plain : goal.returns-in_err-plain
unfolding judged_of
returns-in_err-plain c =
    let a = c.args in
    let refused = was-refused _ _ _ c.in_err-plain.ensures in
    record { value = exit-told _ _ c.from_residual.ensures.1 ∙ check-refused a.longest a.form (letters_by a.form a.letters.now) a.cds a.e _ refused.0 refused.1; protein_after = nothing_read a.longest a.form (letters_by a.form a.letters.now) a.cds a.e _ refused.0 refused.1 a.protein.now }

pub returns : goal.returns
unfolding judged_of
returns c =
    let a = c.args in
    let clear = was-given _ _ _ c.in_ok-plain.ensures in
    let read = c.read_reference in
    record { value = check-known a.longest a.form (letters_by a.form a.letters.now) a.cds a.e clear.0 read.result read.ensures.value; protein_after = read.ensures.protein_after ∙ all_read a.longest a.form (letters_by a.form a.letters.now) a.cds a.e clear.0 a.protein.now }
