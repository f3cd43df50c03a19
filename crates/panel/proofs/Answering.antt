-- Laws of the answer under the profile: what each refusal leaves, and that what it accepts is the full module's answer.
-- Assumes nothing.
use mathlib.Core.Path.{◌≡◌, refl, sym, subst, ◌∙◌}
use mathlib.Core.List.{List}
use Prim.Native.Nat.{ℕ, zero, suc}
use Rattle.rules.specs.declared.Cds.{Cds}
use Rattle.rules.specs.declared.Exceptions.{Exceptions}
use Rattle.rules.specs.declared.Limits.{Limits}
use Rattle.rules.specs.declared.Refusal.{Refusal}
use Rattle.rules.specs.declared.Report.{Report}
use Rattle.rules.specs.Bytes.{Result, refused, first_number}
use Rattle.rules.specs.Reference.{Reference, size}
use Rattle.rules.specs.Edit.{Asked, ends_past, end_place, start_place, start_index, end_index, is_misplaced, is_disordered, edit_tests}
use Rattle.rules.specs.Altered.{swap, deleted, inserted, is_uneven}
use Rattle.rules.specs.Refusal.{limits, Room, reference_refusal, refusal}
use Rattle.rules.specs.Refusals.{refusal_number}
use Rattle.rules.specs.Answer.{outcome, Answers}
use Rattle.rules.specs.Views.{bare, reference_of, room_of}
use Rattle.rules.specs.Panel.{has_bases, names_base, profile_tests, panel_outcome}
use Rattle.rules.proofs.Refusing.{refused-reference, refused-edit}
use Rattle.rules.proofs.Answers.{refused-by}
use Rattle.rules.proofs.Panels.{panel-is, accepted-is}
use Rattle.reference.proofs.Judging.{number_some}
use Rattle.altseq.proofs.Answering.{writes_nothing_lem}

module _ (m : Limits) (r : Reference) (a : Asked) (named : ℕ) (t p q : List ℕ) where
  -- 1 to 10
  early : (n : ℕ) → refusal m r a ≡ n → (n ≡ 0 → ⊥) → Answers (panel_outcome m r a named (room_of t p q)) (refused n) t t p p q q
  early zero h some = absurd (some refl)
  early (suc n) h some =
      writes_nothing_lem (panel_outcome m r a named (room_of t p q)) (refused (suc n)) t p q (panel-is m r a named (room_of t p q) ∙ rw h (refused-by m r a (room_of t p q) n h))

  pub reference-refused : (n : ℕ) → reference_refusal m.longest r ≡ n → (n ≡ 0 → ⊥) → Answers (panel_outcome m r a named (room_of t p q)) (refused n) t t p p q q
  reference-refused zero h some = absurd (some refl)
  reference-refused (suc n) h some = early (suc n) (refused-reference m r a n h) some

  module _ (accepted : reference_refusal m.longest r ≡ 0) where
    pub edit-refused : (x : Refusal) → refusal_number x ≡ first_number (edit_tests m.most r a) → Answers (panel_outcome m r a named (room_of t p q)) (refused (refusal_number x)) t t p p q q
    edit-refused x h = early (refusal_number x) (refused-edit m r a accepted ∙ sym h) (number_some x)

    -- 40 to 43
    pub profile-refused : first_number (edit_tests m.most r a) ≡ 0 → (x : Refusal) → refusal_number x ≡ first_number (profile_tests r a named)
        → Answers (panel_outcome m r a named (room_of t p q)) (refused (refusal_number x)) t t p p q q
    profile-refused clear x h = by (refusal_number x) h (number_some x)
      where
        by : (n : ℕ) → n ≡ first_number (profile_tests r a named) → (n ≡ 0 → ⊥) → Answers (panel_outcome m r a named (room_of t p q)) (refused n) t t p p q q
        by zero h some = absurd (some refl)
        by (suc n) h some =
            writes_nothing_lem (panel_outcome m r a named (room_of t p q)) (refused (suc n)) t p q (panel-is m r a named (room_of t p q) ∙ rw (refused-edit m r a accepted ∙ clear, ← h))

  -- and none of them
  pub full : first_number (profile_tests r a named) ≡ 0 → (x : Result Report) (t' p' q' : List ℕ) → Answers (outcome m r a (room_of t p q)) x t t' p p' q q'
      → Answers (panel_outcome m r a named (room_of t p q)) x t t' p p' q q'
  full none x t' p' q' h = rw (accepted-is m r a named (room_of t p q) none) h

-- the tests look at no exception
module _ (s : List ℕ) (c : Cds) (e : Exceptions) (a : Asked) where
  pub tests-bare : (most : ℕ) → first_number (edit_tests most (bare s c) a) ≡ first_number (edit_tests most (reference_of s c e) a)
  unfolding edit_tests is_misplaced is_disordered start_place end_place ends_past size
  tests-bare most = refl

  pub profile-bare : (named : ℕ) → first_number (profile_tests (bare s c) a named) ≡ first_number (profile_tests (reference_of s c e) a named)
  unfolding profile_tests has_bases is_uneven inserted deleted swap start_index end_index size names_base start_place
  profile-bare named = refl

-- the answer for a CDS that is known as another
pub answers-cds : (s : List ℕ) (c d : Cds) (e : Exceptions) (a : Asked) (named : ℕ) (room : Room) (x : Result Report) (t t' p p' q q' : List ℕ) → c ≡ d
    → Answers (panel_outcome limits (reference_of s c e) a named room) x t t' p p' q q' → Answers (panel_outcome limits (reference_of s d e) a named room) x t t' p p' q q'
answers-cds s c d e a named room x t t' p p' q q' is h = subst (λ (c : Cds). Answers (panel_outcome limits (reference_of s c e) a named room) x t t' p p' q q') is h
