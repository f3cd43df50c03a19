-- What is so of an edit that isn't refused.
-- Assumes nothing.
use mathlib.Core.Path.{◌≡◌, refl, sym, ◌∙◌}
use mathlib.Core.Bool.{true, false, ◌&&◌, ◌||◌, not}
use Prim.Native.Nat.{ℕ, zero, suc, ◌+◌, ◌≤◌, ◌<◌}
use native.Mathlib.Omega.{arith}
use lib.Dec.{eqb, leb, ltb}
use borrow.Author.Tests.{leb-false, ltb-false, eqb-true, not-false}
use Rattle.rules.specs.declared.Kind.TheVariants.{Substitution, Insertion, Duplication}
use Rattle.rules.specs.Bytes.{all, first_number}
use Rattle.rules.specs.Reference.{Reference, size, reference_tests}
use Rattle.rules.specs.Position.{is_outside, is_before, is_behind}
use Rattle.rules.specs.Edit.{Asked, is, kind_of, start_place, end_place, ends_past, is_misplaced, is_disordered, is_out_of_cds, fit_bases, edit_tests}
use Rattle.rules.specs.declared.Limits.{Limits}
use Rattle.rules.specs.Refusal.{reference_refusal, refusal}
use Rattle.rules.proofs.Tests.{or_left, or_right, and_implies, first_clear, first_behind, first_before}
use Rattle.rules.proofs.Reference.{Accepted, accepted}

-- 1 to 6 come before 7 to 10
module _ (m : Limits) (r : Reference) (e : Asked) where
  pub refused-reference : (n : ℕ) → reference_refusal m.longest r ≡ suc n → refusal m r e ≡ suc n
  unfolding reference_refusal refusal
  refused-reference n h = first_before (reference_tests m.longest r) (edit_tests m.most r e) n h

  pub refused-edit : reference_refusal m.longest r ≡ 0 → refusal m r e ≡ first_number (edit_tests m.most r e)
  unfolding reference_refusal refusal reference_tests all
  refused-edit h = first_behind (reference_tests m.longest r) (edit_tests m.most r e) refl h

  -- neither is refused
  pub none-refused : refusal m r e ≡ 0 → (reference_refusal m.longest r ≡ 0) × (first_number (edit_tests m.most r e) ≡ 0)
  none-refused h = by (reference_refusal m.longest r) refl
    where
      by : (n : ℕ) → reference_refusal m.longest r ≡ n → (reference_refusal m.longest r ≡ 0) × (first_number (edit_tests m.most r e) ≡ 0)
      by zero q = (q, sym (refused-edit q) ∙ h)
      by (suc n) q = absurd (omega (arith, refused-reference n q))

-- 7 to 10 don't apply
pub record Allowed (most : ℕ) (r : Reference) (e : Asked) : Type 0 where
  pub start-inside : is_outside r.cs r.ce e.edit.start ≡ false
  pub end-inside : is_outside r.cs r.ce e.edit.end ≡ false
  pub copied : is Duplication (kind_of e) ≡ true → end_place r e < size r
  pub ordered : start_place r e ≤ end_place r e
  pub neighbours : is Insertion (kind_of e) ≡ true → end_place r e ≡ start_place r e + 1
  pub single : is Substitution (kind_of e) ≡ true → end_place r e ≡ start_place r e
  pub not-before : (is_before e.edit.start && is_before e.edit.end) ≡ false
  pub not_behind : (is_behind e.edit.start && is_behind e.edit.end) ≡ false
  pub anchored : is Insertion (kind_of e) ≡ true → is_before e.edit.start ≡ false
  pub bases : fit_bases most (kind_of e) e.new ≡ true

pub allowed : (most : ℕ) (r : Reference) (e : Asked) → first_number (edit_tests most r e) ≡ 0 → Allowed most r e
unfolding edit_tests is_misplaced is_disordered is_out_of_cds ends_past
allowed most r e h =
    let seven = first_clear (is_misplaced r e) 6 _ h in
    let eight = first_clear (is_disordered r e) 7 _ seven.1 in
    let nine = first_clear (is_out_of_cds e) 8 _ eight.1 in
    let ten = first_clear (not (fit_bases most (kind_of e) e.new)) 9 _ nine.1 in
    let start = is_outside r.cs r.ce e.edit.start in
    let end = is_outside r.cs r.ce e.edit.end in
    let past = is Duplication (kind_of e) && leb (size r) (end_place r e) in
    let after = ltb (end_place r e) (start_place r e) in
    let apart = is Insertion (kind_of e) && not (eqb (end_place r e) (start_place r e + 1)) in
    let two = is Substitution (kind_of e) && not (eqb (end_place r e) (start_place r e)) in
    let before = is_before e.edit.start && is_before e.edit.end in
    let behind = is_behind e.edit.start && is_behind e.edit.end in
    let left = is Insertion (kind_of e) && is_before e.edit.start in
    record {
      start-inside = or_left start end (or_left (start || end) past seven.0);
      end-inside = or_right start end (or_left (start || end) past seven.0);
      copied = λ k. leb-false (size r) (end_place r e) (and_implies _ _ (or_right (start || end) past seven.0) k);
      ordered = ltb-false (end_place r e) (start_place r e) (or_left after apart (or_left (after || apart) two eight.0));
      neighbours = λ k. eqb-true _ _ (not-false _ (and_implies _ _ (or_right after apart (or_left (after || apart) two eight.0)) k));
      single = λ k. eqb-true _ _ (not-false _ (and_implies _ _ (or_right (after || apart) two eight.0) k));
      not-before = or_left before behind (or_left (before || behind) left nine.0);
      not_behind = or_right before behind (or_left (before || behind) left nine.0);
      anchored = λ k. and_implies _ _ (or_right (before || behind) left nine.0) k;
      bases = not-false _ ten.0;
    }

-- neither the reference nor the edit is refused
module _ (m : Limits) (r : Reference) (e : Asked) (h : refusal m r e ≡ 0) where
  pub reference-accepted : Accepted m.longest r
  reference-accepted = accepted m.longest r (none-refused m r e h).0

  pub edit-allowed : Allowed m.most r e
  edit-allowed = allowed m.most r e (none-refused m r e h).1
