-- `stored::answer::answer_at` meets its contract. Assumes nothing.
use mathlib.Core.Path.{ap, ◌∙◌}
use Rattle.rules.specs.Refusal.{limits}
use Rattle.rules.specs.Views.{asked, room_of}
use Rattle.stored_fields.specs.Held.{exceptions_of}
use Rattle.stored.proofs.Judged.{one_part}
use Rattle.stored.proofs.Answered.{answers}
use Rattle.stored.proofs.answer.answer_at.Goals as goal

pub returns : goal.returns
returns c =
    let a = c.args in
    answers limits a.s.now a.p (asked a.edit a.new.now) (room_of a.transcript.now a.reference.now a.altered.now) c.requires.placed
    c.bytes_at-2.result.now c.exceptions_in-e.result _ a.transcript.now _ a.reference.now _ a.altered.now _
    (c.bytes_at-2.ensures ∙ one_part a.s.now a.p c.requires.placed c.requires.len_value) (c.exceptions_in-e.ensures ∙ ap exceptions_of c.bytes_at.ensures) c.build_altseq.ensures
