-- Laws of the longest edit of a call (E12): an edit with more new bases than that is answered as the same edit without any is within the module's own
-- limits, for 10 refuses both in the same place.
-- Assumes nothing.
use Rattle.std.specs.Prelude.{if◌then◌else◌}
use mathlib.Core.Path.{◌≡◌, refl, sym, ap}
use mathlib.Core.Bool.{Bool, true, false, ◌&&◌}
use mathlib.Core.List.{List, []}
use Prim.Native.Nat.{ℕ, zero, suc, ◌≤◌}
use native.Mathlib.Omega.{arith}
use lib.Dec.{eqb, leb, ltb}
use lib.ListN.{length}
use borrow.Author.Tests.{leb-true, ltb-true, ltb-false, le-leb, lt-leb}
use Rattle.rules.specs.declared.Kind.{Kind}
use Rattle.rules.specs.declared.Kind.TheVariants.{Substitution, Deletion, Delins, Insertion, Duplication, Inversion, Identity, Other}
use Rattle.rules.specs.declared.Edit.{Edit}
use Rattle.rules.specs.Bytes.{all, first_number}
use Rattle.rules.specs.Letters.{is_letter}
use Rattle.rules.specs.Reference.{Reference, reference_tests}
use Rattle.rules.specs.Edit.{Asked, is_misplaced, ends_past, end_place, is_disordered, start_place, is_out_of_cds, are_new_bases, fit_bases, edit_tests}
use Rattle.rules.specs.Record.{is_unknown}
use Rattle.rules.specs.Refusal.{limits, refusal, Room, room_refusal}
use Rattle.rules.specs.Views.{asked}
use Rattle.rules.specs.Answer.{writes_all, outcome_by, outcome}
use Rattle.rules.specs.Check.{Proposal, proposal_tests, checks_all, check_by, check_outcome}
use Rattle.rules.specs.Reference as reference
use Rattle.rules.specs.Protein.{altered_protein}
use Rattle.rules.specs.Longest.{is_given_longest, limits_with}
use Rattle.rules.proofs.Refusing.{none-refused, allowed}

-- the kinds whose new bases the longest edit counts
abbrev pub is_counted : Kind → Bool
is_counted Delins = true
is_counted Insertion = true
is_counted Substitution = false
is_counted Deletion = false
is_counted Duplication = false
is_counted Inversion = false
is_counted Identity = false
is_counted Other = false

-- the new bases, or none where they are counted and too many
unfoldable pub bases_within : ℕ → Kind → List ℕ → List ℕ
bases_within n k s = if is_counted k && ltb (limits_with n).most (length s) then [] else s

most_within : (n : ℕ) → is_given_longest n ≡ true → (limits_with n).most ≤ 4096
unfolding is_given_longest limits_with
most_within n h = by (eqb n 0)
  where
    by : (b : Bool) → (if b then 4096 else n) ≤ 4096
    by true = omega arith
    by false = leb-true n 4096 h

-- 10, by either limit
counted : (m : ℕ) (s : List ℕ) → m ≤ 4096 → are_new_bases m s ≡ are_new_bases 4096 (if ltb m (length s) then [] else s)
unfolding are_new_bases
counted m s h = by (ltb m (length s)) refl
  where
    by : (b : Bool) → ltb m (length s) ≡ b → (leb 1 (length s) && leb (length s) m && all is_letter s) ≡ are_new_bases 4096 (if b then [] else s)
    by true k = rw (le-leb 1 (length s) (omega (arith, ltb-true m (length s) k)), lt-leb (length s) m (ltb-true m (length s) k))
    by false k = let l = ltb-false m (length s) k in rw (le-leb (length s) m l, le-leb (length s) 4096 (omega arith))

fits_within : (n : ℕ) (k : Kind) (s : List ℕ) → is_given_longest n ≡ true → fit_bases (limits_with n).most k s ≡ fit_bases 4096 k (bases_within n k s)
unfolding fit_bases bases_within
fits_within n Substitution s h = refl
fits_within n Deletion s h = refl
fits_within n Delins s h = counted (limits_with n).most s (most_within n h)
fits_within n Insertion s h = counted (limits_with n).most s (most_within n h)
fits_within n Duplication s h = refl
fits_within n Inversion s h = refl
fits_within n Identity s h = refl
fits_within n Other s h = refl

-- bases that fit are those that were given
same-bases : (n : ℕ) (k : Kind) (s : List ℕ) → fit_bases 4096 k (bases_within n k s) ≡ true → bases_within n k s ≡ s
unfolding fit_bases bases_within are_new_bases
same-bases n Substitution s h = refl
same-bases n Deletion s h = refl
same-bases n Delins s h = by (ltb (limits_with n).most (length s)) h
  where
    by : (b : Bool) → are_new_bases 4096 (if b then [] else s) ≡ true → (if b then [] else s) ≡ s
    by true h = let z : ◌≡◌ {A = ℕ} 0 1 = cc in absurd (omega arith)
    by false h = refl
same-bases n Insertion s h = by (ltb (limits_with n).most (length s)) h
  where
    by : (b : Bool) → are_new_bases 4096 (if b then [] else s) ≡ true → (if b then [] else s) ≡ s
    by true h = let z : ◌≡◌ {A = ℕ} 0 1 = cc in absurd (omega arith)
    by false h = refl
same-bases n Duplication s h = refl
same-bases n Inversion s h = refl
same-bases n Identity s h = refl
same-bases n Other s h = refl

module _ (n : ℕ) (h : is_given_longest n ≡ true) (r : Reference) (e : Edit) (new : List ℕ) where
  -- the same edit, with its bases as they are handed on
  abbrev pub handed : Asked
  handed = asked e (bases_within n e.kind new)

  refusal-within : refusal (limits_with n) r (asked e new) ≡ refusal limits r handed
  unfolding refusal limits_with edit_tests is_misplaced ends_past end_place is_disordered start_place is_out_of_cds
  refusal-within = rw (fits_within n e.kind new h)

  -- 7 to 10 by either limit, and what they leave
  pub edits-within : edit_tests (limits_with n).most r (asked e new) ≡ edit_tests 4096 r handed
  unfolding edit_tests is_misplaced ends_past end_place is_disordered start_place is_out_of_cds
  edits-within = rw (fits_within n e.kind new h)

  pub bases-clear : first_number (edit_tests 4096 r handed) ≡ 0 → bases_within n e.kind new ≡ new
  bases-clear none = same-bases n e.kind new (allowed 4096 r handed none).bases

  clear_within : refusal limits r handed ≡ 0 → bases_within n e.kind new ≡ new
  clear_within none = bases-clear (none-refused limits r handed none).1

  -- what is answered by the refusal, and by the edit where there is none
  pub within_by : {A : Type 0} (by : ℕ → Asked → A) → ((x : ℕ) (a b : Asked) → by (suc x) a ≡ by (suc x) b)
      → by (refusal (limits_with n) r (asked e new)) (asked e new) ≡ by (refusal limits r handed) handed
  within_by by same = rw refusal-within (tests (refusal limits r handed) refl)
    where
      tests : (x : ℕ) → refusal limits r handed ≡ x → by x (asked e new) ≡ by x handed
      tests (suc x) q = same x (asked e new) handed
      tests zero q = ap (λ (s : List ℕ). by 0 (asked e s)) (sym (clear_within q))

  pub outcome-within : (room : Room) → outcome (limits_with n) r (asked e new) room ≡ outcome limits r handed room
  unfolding outcome outcome_by
  outcome-within room = within_by (λ x a. outcome_by x (is_unknown r a) (room_refusal r a room) (writes_all r a)) (λ x a b. refl)

  pub check-within : (p : Proposal) (room : Room) → check_outcome (limits_with n) r (asked e new) p room ≡ check_outcome limits r handed p room
  unfolding check_outcome check_by
  check-within p room =
      within_by (λ x a. check_by x (is_unknown r a) (room_refusal r a room) (first_number (proposal_tests p (reference.reference_protein r) (altered_protein r a))) (checks_all p r a)) (λ x a b. refl)
