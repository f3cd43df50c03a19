-- Laws of 26: what was decided of an edit, and whether its answer is Changed, make what is decided of a checked record.
-- Assumes nothing.
use Rattle.std.specs.Prelude.{Option, None, Some}
use mathlib.Core.Path.{◌≡◌, refl, sym, ap, ◌∙◌}
use mathlib.Core.Bool.{Bool, true, false}
use mathlib.Core.List.{List}
use Prim.Native.Nat.{ℕ, zero, suc, ◌≤◌}
use native.Mathlib.Omega.{arith}
use Rattle.rules.specs.declared.Edit.{Edit}
use Rattle.rules.specs.declared.Exceptions.{Exceptions}
use Rattle.rules.specs.Bytes.{Result, given, refused, unless}
use Rattle.rules.specs.Reference.{Reference, reference_protein}
use Rattle.rules.specs.Edit.{Asked}
use Rattle.rules.specs.Protein.{altered_protein}
use Rattle.rules.specs.Record.{is_unknown}
use Rattle.rules.specs.Refusal.{limits, refusal, Room, room_refusal}
use Rattle.rules.specs.Check.{is_changed}
use Rattle.rules.specs.Views.{bare, asked, reference_of}
use Rattle.reference.specs.declared.Known.{Known}
use Rattle.reference.specs.Known.{Knows}
use Rattle.edits.specs.declared.plans.Plan.{Plan}
use Rattle.edits.specs.Decisions.{decision_of}
use Rattle.edits.specs.Plans.{plan_of}
use Rattle.edits.proofs.Deciding.{decided-refusal, decided-unknown}
use Rattle.altseq.specs.Carried.{protein_by}
use Rattle.altseq.specs.Decided.{room_by, with_room, decided_in}
use Rattle.altseq.proofs.Answering.{unknown-is, allowed-is, none-refused, not-unknown, plan-is, room-is, protein-is, room_left}
use Rattle.checks.specs.Changing.{changing_by, changing_in, Changes}

-- 26 for an Unknown, and where the answer isn't Changed
abbrev changed_by : Bool → Result (Option Plan) → Result Plan
changed_by changed (refused n) = refused n
changed_by changed (given None) = refused 26
changed_by true (given (Some p)) = given p
changed_by false (given (Some p)) = refused 26

module _ (s : List ℕ) (k : Known) (e : Exceptions) (protein : List ℕ) (known : Knows limits s k e protein) (edit : Edit) (new : List ℕ) (room : Room) where
  abbrev r : Reference
  r = reference_of s k.cds e

  abbrev a : Asked
  a = asked edit new

  abbrev changed : Bool
  changed = is_changed (reference_protein r) (altered_protein r a)

  by-refusal : (n u m : ℕ) (t b : Bool) (p : Plan) → n ≡ u → 1 ≤ u → changing_by n t m b p ≡ refused u
  unfolding changing_by
  by-refusal zero u m t b p h some = absurd (omega arith)
  by-refusal (suc n) u m t b p h some = ap refused h

  decided-on : (d : Result (Option Plan)) → decision_of limits.most k.several (bare s k.cds) a ≡ d → changing_in r a room ≡ changed_by changed (with_room k.cds room d)
  unfolding changing_in changing_by with_room unless
  decided-on (refused n) h =
      let both = decided-refusal limits.most k.several (bare s k.cds) a n h in
      by-refusal (refusal limits r a) n (room_refusal r a room) (is_unknown r a) changed (plan_of r a) (allowed-is limits s k e protein known a ∙ both.0) both.1
  decided-on (given None) h =
      let both = decided-unknown limits.most k.several (bare s k.cds) a h in
      rw (allowed-is limits s k e protein known a ∙ both.0, unknown-is limits s k e protein known a ∙ both.1)
  decided-on (given (Some p)) h =
      rw (none-refused limits s k e protein known a p h, not-unknown limits s k e protein known a p h, room-is limits s k e protein known a p h room, ← plan-is limits s k e protein known a p h)
      (by (room_by k.cds p.length room) changed)
    where
      by : (n : ℕ) (b : Bool) → changing_by 0 false n b p ≡ changed_by b (unless n (Some p))
      by zero true = refl
      by zero false = refl
      by (suc n) true = refl
      by (suc n) false = refl

  -- only a plan that goes, goes on
  pub changed-goes : (p : Plan) → changing_in r a room ≡ given p → decided_in k.several (bare s k.cds) a room ≡ given (Some p)
  unfolding decided_in
  changed-goes p h = by changed (with_room k.cds room (decision_of limits.most k.several (bare s k.cds) a)) (sym (decided-on (decision_of limits.most k.several (bare s k.cds) a) refl) ∙ h)
    where
      by : (b : Bool) (d : Result (Option Plan)) → changed_by b d ≡ given p → d ≡ given (Some p)
      by true (refused n) q = let z : ◌≡◌ {A = ℕ} 0 1 = cc in absurd (omega arith)
      by false (refused n) q = let z : ◌≡◌ {A = ℕ} 0 1 = cc in absurd (omega arith)
      by true (given None) q = let z : ◌≡◌ {A = ℕ} 0 1 = cc in absurd (omega arith)
      by false (given None) q = let z : ◌≡◌ {A = ℕ} 0 1 = cc in absurd (omega arith)
      by true (given (Some f)) q = let same : f ≡ p = cc in ap (λ (p : Plan). given (Some p)) same
      by false (given (Some f)) q = let z : ◌≡◌ {A = ℕ} 0 1 = cc in absurd (omega arith)

  deciding : (d : Result (Option Plan)) → d ≡ decided_in k.several (bare s k.cds) a room → changing_in r a room ≡ changed_by changed d
  unfolding decided_in
  deciding d is = decided-on (decision_of limits.most k.several (bare s k.cds) a) refl ∙ ap (changed_by changed) (sym is)

  pub decides-refused : (n : ℕ) → refused n ≡ decided_in k.several (bare s k.cds) a room → refused n ≡ changing_in r a room
  decides-refused n h = sym (deciding (refused n) h)

  pub decides-unknown : given None ≡ decided_in k.several (bare s k.cds) a room → refused 26 ≡ changing_in r a room
  decides-unknown h = sym (deciding (given None) h)

  module _ (p : Plan) (h : given (Some p) ≡ decided_in k.several (bare s k.cds) a room) where
    goes : decision_of limits.most k.several (bare s k.cds) a ≡ given (Some p)
    unfolding decided_in
    goes = (room_left k.cds room (decision_of limits.most k.several (bare s k.cds) a) p (sym h)).0

    pub may-change : Changes s k e protein p new
    may-change =
        record {
          known = known;
          edit = edit;
          allowed = none-refused limits s k e protein known a p goes;
          told = not-unknown limits s k e protein known a p goes;
          is = plan-is limits s k e protein known a p goes;
        }

    module _ (b : Bool) (told : b ≡ is_changed protein (protein_by r p new)) where
      changed-is : changed ≡ b
      changed-is =
          let same = protein-is r a p (plan-is limits s k e protein known a p goes) (not-unknown limits s k e protein known a p goes) in
          sym (told ∙ rw (known.read, same))

      pub decides-changed : b ≡ true → given p ≡ changing_in r a room
      decides-changed q = sym (deciding (given (Some p)) h ∙ rw (changed-is, q))

      pub decides-unchanged : b ≡ false → refused 26 ≡ changing_in r a room
      decides-unchanged q = sym (deciding (given (Some p)) h ∙ rw (changed-is, q))
