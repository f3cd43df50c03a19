-- `checks::decide_changing` meets its contract. Assumes nothing.
use mathlib.Core.Path.{sym, ap, ◌∙◌}
use Rattle.rules.specs.Bytes.{given}
use Rattle.rules.specs.Packed.{letters_by}
use Rattle.checks.proofs.Deciding.{decides-refused, decides-unknown, may-change, decides-changed, decides-unchanged}
use Rattle.reference.proofs.Judging.{exit-told}
use Rattle.checks.proofs.decide_changing.Goals as goal

pub returns-in_err-plan : goal.returns-in_err-plan
returns-in_err-plan c =
    let a = c.args in
    exit-told _ _ c.from_residual.ensures.1
    ∙ decides-refused (letters_by a.known.form a.letters.now) a.known a.e a.protein.now c.requires a.edit a.new.now (record { transcript = a.room.transcript; reference = a.room.reference; altered = a.room.altered }) _ c.in_err-plan.ensures

pub returns-in_default : goal.returns-in_default
returns-in_default c =
    let a = c.args in
    decides-unknown (letters_by a.known.form a.letters.now) a.known a.e a.protein.now c.requires a.edit a.new.now (record { transcript = a.room.transcript; reference = a.room.reference; altered = a.room.altered }) (ap given (sym c.in_default.is) ∙ c.in_ok-plan.ensures)

pub changes-requires : goal.changes-requires
changes-requires c =
    let a = c.args in
    may-change (letters_by a.known.form a.letters.now) a.known a.e a.protein.now c.requires a.edit a.new.now (record { transcript = a.room.transcript; reference = a.room.reference; altered = a.room.altered }) _ (ap given (sym c.in-Some.is) ∙ c.in_ok-plan.ensures)

pub returns-then-changes : goal.returns-then-changes
returns-then-changes c =
    let a = c.args in
    decides-changed (letters_by a.known.form a.letters.now) a.known a.e a.protein.now c.requires a.edit a.new.now (record { transcript = a.room.transcript; reference = a.room.reference; altered = a.room.altered }) _ (ap given (sym c.in-Some.is) ∙ c.in_ok-plan.ensures) c.changes.result c.changes.ensures c.if-changes.true

pub returns-else-changes : goal.returns-else-changes
returns-else-changes c =
    let a = c.args in
    decides-unchanged (letters_by a.known.form a.letters.now) a.known a.e a.protein.now c.requires a.edit a.new.now (record { transcript = a.room.transcript; reference = a.room.reference; altered = a.room.altered }) _ (ap given (sym c.in-Some.is) ∙ c.in_ok-plan.ensures) c.changes.result c.changes.ensures c.if-changes.false
