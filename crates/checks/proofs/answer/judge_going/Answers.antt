-- `checks::answer::judge_going` meets its contract. Assumes nothing.
use mathlib.Core.Path.{sym, ap}
use lib.ListN.{length}
use lib.Seq.{length-take-le}
use Rattle.rules.specs.Reference.{reference_protein}
use Rattle.rules.specs.Views.{reference_of}
use Rattle.proposals.specs.Proposed.{proposed}
use Rattle.checks.proofs.Judging.{no-proposal, altered-fits, judged-answer, judged-transcript, judged-altered}
use Rattle.rules.specs.Packed.{letters_by}
use mathlib.Core.Bool.{not}
use Rattle.checks.proofs.answer.judge_going.Goals as goal

pub returns-then-not-is_proposal : goal.returns-then-not-is_proposal
returns-then-not-is_proposal c =
    let a = c.args in
    let x = c.requires in
    let all = no-proposal (letters_by a.going.known.form a.letters.now) a.going.known a.going.e a.protein.now a.going.plan a.new.now a.transcript.now a.altered.now x (proposed a.going.number a.deleted.now a.inserted.now) c.is_proposal.result (c.is_proposal.ensures (reference_protein (reference_of (letters_by a.going.known.form a.letters.now) a.going.known.cds a.going.e)) (sym (ap length x.known.read))) (ap not c.if-not-is_proposal.true) in
    record { answer = all.0; transcript_after = all.1; altered_after = all.2 }

pub slice_bounds-judge-end : goal.slice_bounds-judge-end
slice_bounds-judge-end c =
    let a = c.args in
    let x = c.requires in
    altered-fits (letters_by a.going.known.form a.letters.now) a.going.known a.going.e a.protein.now a.going.plan a.new.now a.transcript.now a.altered.now x (proposed a.going.number a.deleted.now a.inserted.now) c.is_proposal.result (c.is_proposal.ensures (reference_protein (reference_of (letters_by a.going.known.form a.letters.now) a.going.known.cds a.going.e)) (sym (ap length x.known.read))) (ap not c.if-not-is_proposal.false) c.carry_out-report.result c.carry_out-report.ensures.value a.transcript.now _ c.carry_out-report.ensures.altered_after

pub slice_bounds-judge-end-2 : goal.slice_bounds-judge-end-2
slice_bounds-judge-end-2 c =
    let a = c.args in
    let x = c.requires in
    sym (length-take-le c.carry_out-report.result.altered _ (altered-fits (letters_by a.going.known.form a.letters.now) a.going.known a.going.e a.protein.now a.going.plan a.new.now a.transcript.now a.altered.now x (proposed a.going.number a.deleted.now a.inserted.now) c.is_proposal.result (c.is_proposal.ensures (reference_protein (reference_of (letters_by a.going.known.form a.letters.now) a.going.known.cds a.going.e)) (sym (ap length x.known.read))) (ap not c.if-not-is_proposal.false) c.carry_out-report.result c.carry_out-report.ensures.value a.transcript.now _ c.carry_out-report.ensures.altered_after))

pub returns : goal.returns
returns c =
    let judged = c.judge-judged in
    let a = c.args in
    let x = c.requires in
    record { answer = judged-answer (letters_by a.going.known.form a.letters.now) a.going.known a.going.e a.protein.now a.going.plan a.new.now a.transcript.now a.altered.now x (proposed a.going.number a.deleted.now a.inserted.now) c.is_proposal.result (c.is_proposal.ensures (reference_protein (reference_of (letters_by a.going.known.form a.letters.now) a.going.known.cds a.going.e)) (sym (ap length x.known.read))) (ap not c.if-not-is_proposal.false) c.carry_out-report.result c.carry_out-report.ensures.value a.transcript.now _ c.carry_out-report.ensures.altered_after judged.result.replays judged.result.shortest judged.ensures.replays_value judged.ensures.shortest_value; transcript_after = judged-transcript (letters_by a.going.known.form a.letters.now) a.going.known a.going.e a.protein.now a.going.plan a.new.now a.transcript.now a.altered.now x (proposed a.going.number a.deleted.now a.inserted.now) c.is_proposal.result (c.is_proposal.ensures (reference_protein (reference_of (letters_by a.going.known.form a.letters.now) a.going.known.cds a.going.e)) (sym (ap length x.known.read))) (ap not c.if-not-is_proposal.false) c.carry_out-report.result c.carry_out-report.ensures.value _ _ c.carry_out-report.ensures.altered_after c.carry_out-report.ensures.transcript_after; altered_after = judged-altered (letters_by a.going.known.form a.letters.now) a.going.known a.going.e a.protein.now a.going.plan a.new.now a.transcript.now a.altered.now x (proposed a.going.number a.deleted.now a.inserted.now) c.is_proposal.result (c.is_proposal.ensures (reference_protein (reference_of (letters_by a.going.known.form a.letters.now) a.going.known.cds a.going.e)) (sym (ap length x.known.read))) (ap not c.if-not-is_proposal.false) c.carry_out-report.result c.carry_out-report.ensures.value a.transcript.now _ c.carry_out-report.ensures.altered_after }
