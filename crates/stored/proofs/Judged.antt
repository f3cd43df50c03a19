-- Laws of judging a stored reference: 1 to 5, 6 or 28 of what stands in the bytes, and what an answer tells then.
-- Assumes nothing.
use mathlib.Core.Path.{◌≡◌, refl, sym, ap, ◌∙◌}
use mathlib.Core.Bool.{Bool}
use mathlib.Core.List.{List, [], ◌∷◌, append-nil}
use Prim.Native.Nat.{ℕ, ◌+◌, ◌%◌, ◌≤◌, ◌<◌}
use native.Mathlib.Decide.{dec_lt}
use native.Mathlib.Omega.{arith}
use lib.ListN.{length}
use borrow.Author.Tests.{lt-leb}
use Rattle.rules.specs.declared.Cds.{Cds}
use Rattle.rules.specs.declared.Exception.{Exception}
use Rattle.rules.specs.declared.Exceptions.{Exceptions}
use Rattle.rules.specs.declared.Part.{Part}
use Rattle.rules.specs.Bytes.{first_number, given, refused, unless}
use Rattle.rules.specs.Translation.{exception_list}
use Rattle.rules.specs.Reference.{Reference, size, cds_size, are_bounds, fit_exceptions, is_cut_short, reference_tests}
use Rattle.rules.specs.Record.{part_of}
use Rattle.rules.specs.Refusal.{reference_refusal}
use Rattle.rules.specs.declared.Refusal.{Refusal}
use Rattle.rules.specs.Refusals.{refusal_number}
use Rattle.rules.specs.Stored.{reference_form, fields, exceptions_in, assembled_in, checked, stored_reference, fitted, read_reference, joined_by, written_joined}
use Rattle.rules.specs.Views.{reference_of}
use Rattle.rules.proofs.Reference.{accepted}
use Rattle.reference.specs.Known.{judged_of}
use Rattle.reference.proofs.Judging.{was-refused, was-given, told-refused}
use Rattle.fields.proofs.Places.{length_of_part}
use Rattle.stored_fields.specs.declared.field_places.StoredAt.{StoredAt}
use Rattle.stored_fields.specs.Held.{exceptions_of}
use Rattle.stored_fields.specs.Reading.{is_there, letters_at, placed_reference, told_reference, Placed, Reads}
use Rattle.stored_fields.proofs.Held.{list-few, list_length}

-- a reference with other exceptions
abbrev with_exceptions : List ℕ → Cds → List Exception → Reference
with_exceptions s c es = record { letters = s; cs = c.cs; ce = c.ce; table = c.table; exceptions = es; end = c.end }

-- of more than sixteen it doesn't matter which
too_many : (longest : ℕ) (s : List ℕ) (c : Cds) (es fs : List Exception) → 16 < length es → 16 < length fs
    → reference_refusal longest (with_exceptions s c es) ≡ reference_refusal longest (with_exceptions s c fs)
unfolding reference_refusal reference_tests first_number fit_exceptions size are_bounds cds_size is_cut_short
too_many longest s c es fs h k = rw (lt-leb (length es) 16 h, lt-leb (length fs) 16 k)

-- the reference as a call takes it
abbrev pub taken_at : List ℕ → StoredAt → Reference
taken_at s p = reference_of (letters_at s p) p.cds (exceptions_of (part_of p.exceptions s))

-- letters of one part
pub one_part : (s : List ℕ) (p : StoredAt) → Placed s p → p.second.len ≡ 0 → part_of p.letters s ≡ letters_at s p
one_part s p in_place h =
    rw (empty s p.second in_place.second-within h, empty s p.third in_place.third-within (in_place.alone h)) (sym (append-nil (part_of p.letters s)))
  where
    empty : (s : List ℕ) (q : Part) → q.at + q.len ≤ length s → q.len ≡ 0 → part_of q s ≡ []
    empty s q w h = none (part_of q s) (length_of_part s q w ∙ h)
      where
        none : (l : List ℕ) → length l ≡ 0 → l ≡ []
        none [] h = refl
        none (x ∷ l) h = absurd (omega arith)

module _ (longest : ℕ) (s : List ℕ) (p : StoredAt) (in_place : Placed s p) where
  threes : length (part_of p.exceptions s) % 3 ≡ 0
  threes = rw (length_of_part s p.exceptions in_place.exceptions-within) in_place.threes

  few-same : length (exceptions_in (part_of p.exceptions s)) ≤ 16 → taken_at s p ≡ placed_reference s p
  few-same h = rw (list-few (part_of p.exceptions s) threes h)

  -- 1 to 5, 6 and 28 are the same
  pub taken-refusal : reference_refusal longest (taken_at s p) ≡ reference_refusal longest (placed_reference s p)
  taken-refusal = by (dec_lt 16 (length (exceptions_in (part_of p.exceptions s))))
    where
      by : Dec (16 < length (exceptions_in (part_of p.exceptions s))) → reference_refusal longest (taken_at s p) ≡ reference_refusal longest (placed_reference s p)
      by (yes h) =
          too_many longest (letters_at s p) p.cds (exception_list (exceptions_of (part_of p.exceptions s))) (exceptions_in (part_of p.exceptions s))
          (rw (list_length (part_of p.exceptions s) threes) h) h
      by (no h) = ap (reference_refusal longest) (few-same (omega arith))

  -- and so is the reference, where none applies
  pub taken-same : reference_refusal longest (placed_reference s p) ≡ 0 → taken_at s p ≡ placed_reference s p
  taken-same h = few-same (accepted longest (placed_reference s p) h).few

  module _ (letters : List ℕ) (e : Exceptions) (are : letters ≡ letters_at s p) (is : e ≡ exceptions_of (part_of p.exceptions s)) where
    pub taken : reference_of letters p.cds e ≡ taken_at s p
    taken = rw (are, is)

    pub same-refusal : reference_refusal longest (reference_of letters p.cds e) ≡ reference_refusal longest (placed_reference s p)
    same-refusal = ap (reference_refusal longest) taken ∙ taken-refusal

    pub judged-refused : (n : ℕ) → refused n ≡ judged_of longest letters p.cds e → n ≡ reference_refusal longest (placed_reference s p)
    unfolding judged_of
    judged-refused n h = sym (was-refused _ _ _ h).0 ∙ same-refusal

    pub judged-clear : (plain : Bool) → given plain ≡ judged_of longest letters p.cds e → 0 ≡ reference_refusal longest (placed_reference s p)
    unfolding judged_of
    judged-clear plain h = sym (was-given _ _ _ h).0 ∙ same-refusal

-- a refused reference isn't joined
module _ (longest room : ℕ) (s : List ℕ) (n : ℕ) (h : stored_reference longest s ≡ refused n) where
  pub read-refused : read_reference longest room s ≡ refused n
  unfolding read_reference fitted
  read-refused = rw h

  pub none-joined : written_joined longest room s ≡ []
  unfolding written_joined joined_by
  none-joined = rw read-refused

-- a reference that isn't found
pub unfound : (longest : ℕ) (s : List ℕ) (n : ℕ) → Reads s (assembled_in (fields reference_form s)) (refused n) → stored_reference longest s ≡ refused n
unfolding told_reference checked stored_reference
unfound longest s n found = ap (checked longest) (sym found.says)

-- what is told of a reference that is found
module _ (longest : ℕ) (s : List ℕ) (p : StoredAt) (found : Reads s (assembled_in (fields reference_form s)) (given p)) where
  pub is-checked : stored_reference longest s ≡ unless (reference_refusal longest (placed_reference s p)) (placed_reference s p)
  unfolding told_reference checked stored_reference
  is-checked = ap (checked longest) (sym found.says)

  pub refused-at : (r : Refusal) → refusal_number r ≡ reference_refusal longest (placed_reference s p) → stored_reference longest s ≡ refused (refusal_number r)
  refused-at r e = is-checked ∙ sym (told-refused r _ (placed_reference s p) e)

  -- none of 1 to 5, 6 and 28 applies: then 29, or the reference
  module _ (none : 0 ≡ reference_refusal longest (placed_reference s p)) where
    is-given : stored_reference longest s ≡ given (placed_reference s p)
    unfolding unless
    is-given = is-checked ∙ rw (← none)

    module _ (room : ℕ) where
      pub is_read : read_reference longest room s ≡ fitted room (is_there p.second) (given (placed_reference s p))
      unfolding read_reference
      is_read = rw (is-given, (found.stands p refl).joined)

      pub is-joined : written_joined longest room s ≡ joined_by (is_there p.second) (fitted room (is_there p.second) (given (placed_reference s p)))
      unfolding written_joined
      is-joined = rw (is_read, (found.stands p refl).joined)

      pub not-fitted : (r : Refusal) → unless (refusal_number r) (placed_reference s p) ≡ fitted room (is_there p.second) (given (placed_reference s p)) → read_reference longest room s ≡ refused (refusal_number r)
      not-fitted r unfit = is_read ∙ sym unfit ∙ sym (told-refused r _ (placed_reference s p) refl)

      pub reads_at : unless 0 (placed_reference s p) ≡ fitted room (is_there p.second) (given (placed_reference s p)) → Reads s (read_reference longest room s) (given p)
      unfolding told_reference unless
      reads_at fit = record { says = sym (is_read ∙ sym fit); stands = found.stands }
