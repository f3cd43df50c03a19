-- `stored::read::join_within` meets its contract. Assumes nothing.
use mathlib.Core.Path.{sym, ◌∙◌, ap}
use native.Mathlib.Omega.{arith}
use borrow.Author.Tests.{not-true, not-false}
use lib.ListN.{length}
use Rattle.rules.specs.Refusal.{limits}
use Rattle.stored.proofs.Joined.{fits-longest, stays, no_room, has_room}
use mathlib.Core.Bool.{not}
use Rattle.stored.proofs.read.join_within.Goals as goal

pub returns-then-not-is_joined : goal.returns-then-not-is_joined
returns-then-not-is_joined c =
    let a = c.args in
    let said = c.is_joined in
    let whole = stays a.s.now a.p c.requires.placed (length a.joined.now) a.joined.now (sym said.ensures ∙ not-true said.result (ap not c.if-not-is_joined.true)) in
    record { fits = whole.0; joined_after = whole.1 }

pub overflow_add-p-2 : goal.overflow_add-p-2
overflow_add-p-2 c =
    let a = c.args in
    omega (arith, fits-longest a.s.now a.p c.requires.placed limits.longest c.requires.p_value)

pub returns-then-joined-p : goal.returns-then-joined-p
returns-then-joined-p c =
    let a = c.args in
    let said = c.is_joined in
    let whole = no_room a.s.now a.p c.requires.placed (length a.joined.now) a.joined.now (sym said.ensures ∙ not-false said.result (ap not c.if-not-is_joined.false)) c.if-joined-p.true in
    record { fits = whole.0; joined_after = whole.1 }

pub returns : goal.returns
returns c =
    let a = c.args in
    let said = c.is_joined in
    let whole = has_room a.s.now a.p c.requires.placed (length a.joined.now) a.joined.now (sym said.ensures ∙ not-false said.result (ap not c.if-not-is_joined.false)) c.if-joined-p.false _ c.join.ensures in
    record { fits = whole.0; joined_after = whole.1 }
