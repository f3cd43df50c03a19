-- Theorems of the panel profile (E9): whatever it accepts is the full module's answer, and it refuses nothing else than what is listed.
-- Assumes nothing.
use mathlib.Core.Path.{◌≡◌, refl, sym, ◌∙◌}
use mathlib.Core.Bool.{true}
use mathlib.Core.List.{List, ◌++◌}
use Prim.Native.Nat.{ℕ, zero, suc}
use Rattle.rules.specs.declared.Edit.{Edit}
use Rattle.rules.specs.declared.Limits.{Limits}
use Rattle.rules.specs.Bytes.{all, first_number, refused}
use Rattle.rules.specs.Reference.{Reference, reference_tests}
use Rattle.rules.specs.Edit.{Asked, edit_tests}
use Rattle.rules.specs.Record.{is_unknown}
use Rattle.rules.specs.Refusal.{limits, refusal, Room, room_refusal}
use Rattle.rules.specs.Views.{asked}
use Rattle.rules.specs.Answer.{Outcome, writes_nothing, writes_all, outcome_by, outcome}
use Rattle.rules.specs.Longest.{is_given_longest, limits_with}
use Rattle.rules.specs.Panel.{profile_tests, panel_refusal, panel_outcome}
use Rattle.rules.proofs.Tests.{are_numbered, first_behind, first_before}
use Rattle.rules.proofs.WithLongest.{bases_within, within_by}

-- by the full module's refusal of 1 to 10 and the first of 40 to 43: where the one is given or the other isn't, the full module's outcome
abbrev pub profiled : ℕ → ℕ → Outcome → Outcome
profiled (suc n) p full = full
profiled zero zero full = full
profiled zero (suc p) full = writes_nothing (refused (suc p))

module _ (m : Limits) (r : Reference) (e : Asked) (named : ℕ) where
  numbered : are_numbered (reference_tests m.longest r ++ edit_tests m.most r e) ≡ true
  unfolding reference_tests edit_tests all
  numbered = refl

  before : (n : ℕ) → refusal m r e ≡ suc n → panel_refusal m r e named ≡ suc n
  unfolding refusal panel_refusal
  before n h = first_before (reference_tests m.longest r ++ edit_tests m.most r e) (profile_tests r e named) n h

  behind : refusal m r e ≡ 0 → panel_refusal m r e named ≡ first_number (profile_tests r e named)
  unfolding refusal panel_refusal
  behind h = first_behind (reference_tests m.longest r ++ edit_tests m.most r e) (profile_tests r e named) numbered h

  -- the profile's outcome is the full module's, unless the latter has no refusal of 1 to 10 and one of 40 to 43 applies
  pub panel-is : (room : Room) → panel_outcome m r e named room ≡ profiled (refusal m r e) (first_number (profile_tests r e named)) (outcome m r e room)
  unfolding panel_outcome outcome outcome_by
  panel-is room = by (refusal m r e) refl (first_number (profile_tests r e named)) refl
    where
      by : (n : ℕ) → refusal m r e ≡ n → (p : ℕ) → first_number (profile_tests r e named) ≡ p
          → outcome_by (panel_refusal m r e named) (is_unknown r e) (room_refusal r e room) (writes_all r e) ≡ profiled n p (outcome_by n (is_unknown r e) (room_refusal r e room) (writes_all r e))
      by (suc n) h p q = rw (before n h)
      by zero h zero q = rw (behind h ∙ q)
      by zero h (suc p) q = rw (behind h ∙ q)

  -- where none of 40 to 43 applies, to the letter, buffers included
  pub accepted-is : (room : Room) → first_number (profile_tests r e named) ≡ 0 → panel_outcome m r e named room ≡ outcome m r e room
  accepted-is room h = panel-is room ∙ rw h (by (refusal m r e))
    where
      by : (n : ℕ) → profiled n 0 (outcome m r e room) ≡ outcome m r e room
      by zero = refl
      by (suc n) = refl

  -- and what 1 to 10 refuse is refused by the same number
  pub refused_as : (room : Room) (n : ℕ) → refusal m r e ≡ suc n → panel_outcome m r e named room ≡ outcome m r e room
  refused_as room n h = panel-is room ∙ rw h

-- with the longest edit of a call (E12): more new bases are answered as none are within the module's own limits
pub panel_within_lem : (n : ℕ) → is_given_longest n ≡ true → (r : Reference) (e : Edit) (new : List ℕ) (named : ℕ) (room : Room)
    → panel_outcome (limits_with n) r (asked e new) named room ≡ panel_outcome limits r (asked e (bases_within n e.kind new)) named room
unfolding outcome outcome_by
panel_within_lem n h r e new named room =
    panel-is (limits_with n) r (asked e new) named room
    ∙ within_by n h r e new (λ x a. profiled x (first_number (profile_tests r a named)) (outcome_by x (is_unknown r a) (room_refusal r a room) (writes_all r a))) (λ x a b. refl)
    ∙ sym (panel-is limits r (asked e (bases_within n e.kind new)) named room)
