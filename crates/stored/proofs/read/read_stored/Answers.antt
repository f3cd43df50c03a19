-- `stored::read::read_stored` meets its contract. Assumes nothing.
use mathlib.Core.Path.{◌≡◌, sym, ap, ◌∙◌, refl}
use mathlib.Core.List.{List, []}
use Prim.Native.Nat.{ℕ}
use lib.ListN.{length}
use Rattle.rules.specs.Bytes.{over}
use Rattle.rules.specs.Refusal.{limits}
use Rattle.reference.proofs.Judging.{exit-told}
use Rattle.stored_fields.proofs.Reading.{refuses}
use Rattle.stored.proofs.Judged.{read-refused, none-joined, unfound, refused-at, is-joined, not-fitted, reads_at}
use Rattle.stored.proofs.read.read_stored.Goals as goal

-- nothing is written
untouched : (w d : List ℕ) → w ≡ [] → d ≡ over w d
unfolding over
untouched w d h = rw h

pub returns-in_err-p : goal.returns-in_err-p
returns-in_err-p c =
    let a = c.args in
    let room = length a.joined.now in
    let no = unfound limits.longest a.s.now _ c.in_err-p.ensures in
    record { reads = rw (exit-told _ _ c.from_residual.ensures.1) (refuses a.s.now _ _ (read-refused limits.longest room a.s.now _ no)); joined_after = untouched _ a.joined.now (none-joined limits.longest room a.s.now _ no) }

pub refusal_at-requires : goal.refusal_at-requires
refusal_at-requires c = c.in_ok-p.ensures.stands _ refl

pub returns-in_err-refusal_at : goal.returns-in_err-refusal_at
returns-in_err-refusal_at c =
    let a = c.args in
    let room = length a.joined.now in
    let no = refused-at limits.longest a.s.now _ c.in_ok-p.ensures _ c.in_err-refusal_at.ensures in
    record { reads = rw (exit-told _ _ c.from_residual-in_err-refusal_at.ensures.1) (refuses a.s.now _ _ (read-refused limits.longest room a.s.now _ no)); joined_after = untouched _ a.joined.now (none-joined limits.longest room a.s.now _ no) }

pub join_within-requires : goal.join_within-requires
join_within-requires c = record { placed = c.in_ok-p.ensures.stands _ refl; p_value = sym c.in_ok-refusal_at.ensures }

pub returns-in_err-join_within : goal.returns-in_err-join_within
returns-in_err-join_within c =
    let a = c.args in
    let room = length a.joined.now in
    let none = c.in_ok-refusal_at.ensures in
    let said = c.in_err-join_within.ensures in
    record { reads = rw (exit-told _ _ c.from_residual-in_err-join_within.ensures.1) (refuses a.s.now _ _ (not-fitted limits.longest a.s.now _ c.in_ok-p.ensures none room _ said.fits)); joined_after = said.joined_after ∙ ap (λ (l : List ℕ). over l a.joined.now) (sym (is-joined limits.longest a.s.now _ c.in_ok-p.ensures none room)) }

pub returns : goal.returns
returns c =
    let a = c.args in
    let room = length a.joined.now in
    let none = c.in_ok-refusal_at.ensures in
    let said = c.in_ok-join_within.ensures in
    record { reads = reads_at limits.longest a.s.now _ c.in_ok-p.ensures none room said.fits; joined_after = said.joined_after ∙ ap (λ (l : List ℕ). over l a.joined.now) (sym (is-joined limits.longest a.s.now _ c.in_ok-p.ensures none room)) }
