-- `altseq::carry::carry_out` meets its contract. Assumes nothing.
use mathlib.Core.Path.{sym}
use lib.Seq.{length-take-le}
use Rattle.altseq.proofs.Carrying.{plan-fits, silent-some, transcript-fits, makes, altered-fits, shares, reports}
use Rattle.rules.specs.Packed.{letters_by}
use Rattle.altseq.proofs.carry.carry_out.Goals as goal

pub write_transcript-n-requires : goal.write_transcript-n-requires
write_transcript-n-requires c = let a = c.args in plan-fits (letters_by a.known.form a.letters.now) a.known a.e a.protein.now a.plan a.new.now a.transcript.now a.altered.now c.requires

pub slice_bounds-write_altered-end : goal.slice_bounds-write_altered-end
slice_bounds-write_altered-end c =
    let a = c.args in
    let wrote = c.write_transcript-n in
    transcript-fits (letters_by a.known.form a.letters.now) a.known a.e a.protein.now a.plan a.new.now a.transcript.now a.altered.now c.requires wrote.result wrote.new.transcript wrote.ensures.value wrote.ensures.transcript_after

pub slice_bounds-write_altered-end-2 : goal.slice_bounds-write_altered-end-2
slice_bounds-write_altered-end-2 c =
    let a = c.args in
    let wrote = c.write_transcript-n in
    sym (length-take-le wrote.result _ (transcript-fits (letters_by a.known.form a.letters.now) a.known a.e a.protein.now a.plan a.new.now a.transcript.now a.altered.now c.requires wrote.result wrote.new.transcript wrote.ensures.value wrote.ensures.transcript_after))

pub write_altered-made-requires : goal.write_altered-made-requires
write_altered-made-requires c =
    let a = c.args in
    let wrote = c.write_transcript-n in
    makes (letters_by a.known.form a.letters.now) a.known a.e a.protein.now a.plan a.new.now a.transcript.now a.altered.now c.requires wrote.result wrote.new.transcript wrote.ensures.value wrote.ensures.transcript_after

pub slice_bounds-record_beside-end : goal.slice_bounds-record_beside-end
slice_bounds-record_beside-end c =
    let a = c.args in
    let wrote = c.write_transcript-n in
    let made = c.write_altered-made in
    altered-fits (letters_by a.known.form a.letters.now) a.known a.e a.protein.now a.plan a.new.now a.transcript.now a.altered.now c.requires wrote.result wrote.new.transcript wrote.ensures.value wrote.ensures.transcript_after made.result.residues made.new.altered made.ensures.residues_value made.ensures.altered_after

pub slice_bounds-record_beside-end-2 : goal.slice_bounds-record_beside-end-2
slice_bounds-record_beside-end-2 c =
    let a = c.args in
    let wrote = c.write_transcript-n in
    let made = c.write_altered-made in
    sym (length-take-le made.result.residues _ (altered-fits (letters_by a.known.form a.letters.now) a.known a.e a.protein.now a.plan a.new.now a.transcript.now a.altered.now c.requires wrote.result wrote.new.transcript wrote.ensures.value wrote.ensures.transcript_after made.result.residues made.new.altered made.ensures.residues_value made.ensures.altered_after))

pub record_beside-found-requires : goal.record_beside-found-requires
record_beside-found-requires c =
    let a = c.args in
    let wrote = c.write_transcript-n in
    let made = c.write_altered-made in
    record { le_number = silent-some (letters_by a.known.form a.letters.now) a.known a.e a.protein.now a.plan a.new.now a.transcript.now a.altered.now c.requires; shares = shares (letters_by a.known.form a.letters.now) a.known a.e a.protein.now a.plan a.new.now a.transcript.now a.altered.now c.requires wrote.result wrote.new.transcript wrote.ensures.value wrote.ensures.transcript_after made.result.residues made.new.altered made.ensures.residues_value made.ensures.altered_after made.result.ahead made.result.behind made.ensures.shares }

pub returns : goal.returns
returns c =
    let a = c.args in
    let wrote = c.write_transcript-n in
    let made = c.write_altered-made in
    record { value = reports (letters_by a.known.form a.letters.now) a.known a.e a.protein.now a.plan a.new.now a.transcript.now a.altered.now c.requires wrote.result wrote.new.transcript wrote.ensures.value wrote.ensures.transcript_after made.result.residues made.new.altered made.ensures.residues_value made.ensures.altered_after c.record_beside-found.result made.result.looked c.record_beside-found.ensures made.ensures.looked_value; transcript_after = wrote.ensures.transcript_after; altered_after = made.ensures.altered_after }
