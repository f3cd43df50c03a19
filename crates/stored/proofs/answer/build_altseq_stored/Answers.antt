-- `stored::answer::build_altseq_stored` meets its contract. Assumes nothing.
use mathlib.Core.Path.{sym, ◌∙◌, refl}
use Rattle.rules.specs.Refusal.{limits}
use Rattle.rules.specs.Views.{asked, room_of}
use Rattle.reference.proofs.Judging.{exit-told}
use Rattle.stored.proofs.Judged.{unfound, read-refused}
use Rattle.stored.proofs.Joined.{never-joined, refused-joined}
use Rattle.stored.proofs.Answered.{refuses, stored-answers, joined-reading}
use Rattle.stored.proofs.answer.build_altseq_stored.Goals as goal

pub returns-in_err-p : goal.returns-in_err-p
returns-in_err-p c =
    let a = c.args in
    rw (exit-told _ _ c.from_residual.ensures.1)
    (refuses limits _ (asked a.edit a.new.now) (room_of a.transcript.now a.reference.now a.altered.now) a.transcript.now a.reference.now a.altered.now _
    (read-refused limits.longest 0 a.s.now _ (unfound limits.longest a.s.now _ c.in_err-p.ensures)))

pub refusal_at-requires : goal.refusal_at-requires
refusal_at-requires c = c.in_ok-p.ensures.stands _ refl

pub returns-in_err-refusal_at : goal.returns-in_err-refusal_at
returns-in_err-refusal_at c =
    let a = c.args in
    let found = c.in_ok-p.ensures in
    rw (exit-told _ _ c.from_residual-in_err-refusal_at.ensures.1)
    (refuses limits _ (asked a.edit a.new.now) (room_of a.transcript.now a.reference.now a.altered.now) a.transcript.now a.reference.now a.altered.now _
    (joined-reading limits.longest a.s.now _ found (sym c.is_joined.ensures ∙ c.if-is_joined.true) _ (refused-joined a.s.now _ (found.stands _ refl) limits.longest _ c.in_err-refusal_at.ensures)))

pub returns-then-is_joined : goal.returns-then-is_joined
returns-then-is_joined c =
    let a = c.args in
    let found = c.in_ok-p.ensures in
    refuses limits _ (asked a.edit a.new.now) (room_of a.transcript.now a.reference.now a.altered.now) a.transcript.now a.reference.now a.altered.now _
    (joined-reading limits.longest a.s.now _ found (sym c.is_joined.ensures ∙ c.if-is_joined.true) _ (never-joined a.s.now _ (found.stands _ refl) limits.longest c.in_ok-refusal_at.ensures))

pub answer_at-requires-clause-placed : goal.answer_at-requires-clause-placed
answer_at-requires-clause-placed c = c.in_ok-p.ensures.stands _ refl

pub returns : goal.returns
returns c =
    let a = c.args in
    stored-answers limits a.s.now _ (asked a.edit a.new.now) (room_of a.transcript.now a.reference.now a.altered.now) c.in_ok-p.ensures (sym c.is_joined.ensures ∙ c.if-is_joined.false) _
    a.transcript.now _ a.reference.now _ a.altered.now _ c.answer_at.ensures
