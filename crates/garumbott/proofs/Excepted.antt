-- Exceptions in the stored form, as calls take them: they answer alike whether they are held or read, since what isn't held is refused with 5.
-- Assumes nothing.
use Rattle.std.specs.Prelude.{if◌then◌else◌}
use mathlib.Core.Path.{◌≡◌, refl, sym, ap, ◌∙◌}
use mathlib.Core.Bool.{Bool, true, false, ◌&&◌, not}
use mathlib.Core.List.{List, [], ◌∷◌}
use Prim.Native.Nat.{ℕ, zero, suc, ◌%◌, ◌<◌}
use native.Mathlib.Decide.{dec_lt, ℕ_discrete}
use native.Mathlib.Omega.{arith}
use lib.Dec.{leb}
use lib.ListN.{length}
use borrow.Author.Tests.{eq-eqb, ne_eqb, lt-leb}
use Rattle.rules.specs.declared.Exception.{Exception}
use Rattle.rules.specs.declared.Limits.{Limits}
use Rattle.rules.specs.Bytes.{all, first_number, refused, unless}
use Rattle.rules.specs.Letters.{is_letter}
use Rattle.rules.specs.Codons.{is_table}
use Rattle.rules.specs.Translation.{no_exception, exception_list, are_exceptions, folded_translated, translation_tests, translation}
use Rattle.rules.specs.Reference.{Reference, size, is_size, cds_size, are_bounds, codons, are_rising, fit_exceptions, reference_tests}
use Rattle.rules.specs.Edit.{Asked}
use Rattle.rules.specs.Refusal.{Room, reference_refusal, refusal}
use Rattle.rules.specs.Check.{Proposal, checks_nothing, check_by, check_outcome}
use Rattle.rules.specs.Answer.{outcome}
use Rattle.rules.specs.Pair.{PairRoom, pair_outcome}
use Rattle.rules.specs.Panel.{panel_outcome}
use Rattle.rules.specs.Stored.{exceptions_in}
use Rattle.rules.specs.Storing.{written_reference}
use Rattle.rules.proofs.Answers.{refused-by}
use Rattle.rules.proofs.Writing.{refuses}
use Rattle.rules.proofs.PairAnswers.{reference-refused}
use Rattle.rules.proofs.Panels.{refused_as}
use Rattle.stored_fields.specs.Held.{exceptions_of}
use Rattle.stored_fields.proofs.Held.{list-few, list_length, list_uneven}
use Rattle.rules.specs.declared.Cds.{Cds}
use Rattle.garumbott.specs.Host.{exceptions_at}
use Rattle.altseq.specs.Transcribing.{edited}
use Rattle.altseq.proofs.Transcribing.{edited-refused}

-- no list that a call takes
pub record Unfit (es : List Exception) : Type 0 where
  pub plain : are_exceptions es ≡ false
  pub rising : (most : ℕ) → (leb (length es) 16 && are_rising 0 most es) ≡ false

unfit_long : (es : List Exception) → 16 < length es → Unfit es
unfolding are_exceptions
unfit_long es h = record { plain = rw (lt-leb (length es) 16 h); rising = λ most. rw (lt-leb (length es) 16 h) }

unfit_none : Unfit (no_exception ∷ [])
unfolding are_exceptions are_rising all
unfit_none = record { plain = refl; rising = λ most. refl }

-- what answers alike to lists that are unfit answers alike to both accounts of the bytes
module _ {B : Type 0} (f : List Exception → B) (alike : (es fs : List Exception) → Unfit es → Unfit fs → f es ≡ f fs) where
  pub as-given : (s : List ℕ) → f (exception_list (exceptions_of s)) ≡ f (exceptions_at s)
  unfolding exceptions_at
  as-given s = by (ℕ_discrete (length s % 3) 0)
    where
      few : length s % 3 ≡ 0 → Dec (16 < length (exceptions_in s)) → f (exception_list (exceptions_of s)) ≡ f (exceptions_in s)
      few whole (yes h) =
          alike (exception_list (exceptions_of s)) (exceptions_in s) (unfit_long (exception_list (exceptions_of s)) (omega (arith, list_length s whole))) (unfit_long (exceptions_in s) h)
      few whole (no h) = ap f (list-few s whole (omega arith))

      by : Dec (length s % 3 ≡ 0) → f (exception_list (exceptions_of s)) ≡ f (exceptions_at s)
      by (yes whole) = rw (eq-eqb (length s % 3) 0 whole) (few whole (dec_lt 16 (length (exceptions_in s))))
      by (no uneven) =
          rw (ne_eqb (length s % 3) 0 uneven)
          (alike (exception_list (exceptions_of s)) (no_exception ∷ []) (unfit_long (exception_list (exceptions_of s)) (omega (arith, list_uneven s uneven))) unfit_none)

-- plain translation
translation_unfit : (table : ℕ) (es : List Exception) (full : Bool) (s : List ℕ) (room : ℕ) → Unfit es → translation table es full s room ≡ refused (if is_table table then 5 else 4)
unfolding translation translation_tests first_number unless
translation_unfit table es full s room u = rw u.plain (by (is_table table) (folded_translated table es s))
  where
    by : (t : Bool) (p : List ℕ) → unless (if not t then 4 else 5) p ≡ refused (if t then 5 else 4)
    by true p = refl
    by false p = refl

pub translation_given : (table : ℕ) (full : Bool) (s : List ℕ) (room : ℕ) (x : List ℕ)
    → translation table (exception_list (exceptions_of x)) full s room ≡ translation table (exceptions_at x) full s room
translation_given table full s room x =
    as-given (λ es. translation table es full s room)
    (λ es fs u v. translation_unfit table es full s room u ∙ sym (translation_unfit table fs full s room v)) x

-- a proposed record
check-refused : (m : Limits) (r : Reference) (a : Asked) (q : Proposal) (room : Room) (n : ℕ) → refusal m r a ≡ suc n → check_outcome m r a q room ≡ checks_nothing (suc n)
unfolding check_outcome check_by
check-refused m r a q room n h = rw h

-- an edit of a reference
module _ (m : Limits) (s : List ℕ) (c : Cds) where
  abbrev with : List Exception → Reference
  with es = record { letters = s; cs = c.cs; ce = c.ce; table = c.table; exceptions = es; end = c.end }

  -- 1 to 5, the exceptions unfit
  lowest : ℕ
  lowest =
      if not (is_size m.longest (length s)) then 1
      else if not (all is_letter s) then 2
      else if not (are_bounds (with [])) then 3
      else if not (is_table c.table) then 4
      else 5

  lowest-some : lowest ≡ 0 → ⊥
  unfolding lowest
  lowest-some h = by (not (is_size m.longest (length s))) (not (all is_letter s)) (not (are_bounds (with []))) (not (is_table c.table)) h
    where
      by : (t u v w : Bool) → ◌≡◌ {A = ℕ} (if t then 1 else if u then 2 else if v then 3 else if w then 4 else 5) 0 → ⊥
      by true u v w h = omega arith
      by false true v w h = omega arith
      by false false true w h = omega arith
      by false false false true h = omega arith
      by false false false false h = omega arith

  refusal-unfit : (es : List Exception) (a : Asked) → Unfit es → refusal m (with es) a ≡ lowest
  unfolding lowest refusal reference_tests first_number are_bounds size cds_size fit_exceptions
  refusal-unfit es a u = rw (u.rising (codons (with es)))

  outcome-alike : (a : Asked) (room : Room) (es fs : List Exception) → Unfit es → Unfit fs → outcome m (with es) a room ≡ outcome m (with fs) a room
  outcome-alike a room es fs u v = by lowest (refusal-unfit es a u) (refusal-unfit fs a v) lowest-some
    where
      by : (n : ℕ) → refusal m (with es) a ≡ n → refusal m (with fs) a ≡ n → (n ≡ 0 → ⊥) → outcome m (with es) a room ≡ outcome m (with fs) a room
      by zero h k some = absurd (some refl)
      by (suc n) h k some = refused-by m (with es) a room n h ∙ sym (refused-by m (with fs) a room n k)

  pub outcome-given : (a : Asked) (room : Room) (x : List ℕ) → outcome m (with (exception_list (exceptions_of x))) a room ≡ outcome m (with (exceptions_at x)) a room
  outcome-given a room x = as-given (λ es. outcome m (with es) a room) (outcome-alike a room) x

  -- the profile refuses them as the full module does
  panel-unfit : (es : List Exception) (a : Asked) (named : ℕ) (room : Room) → Unfit es → panel_outcome m (with es) a named room ≡ outcome m (with es) a room
  panel-unfit es a named room u = by lowest (refusal-unfit es a u) lowest-some
    where
      by : (n : ℕ) → refusal m (with es) a ≡ n → (n ≡ 0 → ⊥) → panel_outcome m (with es) a named room ≡ outcome m (with es) a room
      by zero h some = absurd (some refl)
      by (suc n) h some = refused_as m (with es) a named room n h

  pub panel-given : (a : Asked) (named : ℕ) (room : Room) (x : List ℕ)
      → panel_outcome m (with (exception_list (exceptions_of x))) a named room ≡ panel_outcome m (with (exceptions_at x)) a named room
  panel-given a named room x =
      as-given (λ es. panel_outcome m (with es) a named room)
      (λ es fs u v. panel-unfit es a named room u ∙ (outcome-alike a room es fs u v ∙ sym (panel-unfit fs a named room v))) x

  pub edited-given : (a : Asked) (room : ℕ) (x : List ℕ) → edited m (with (exception_list (exceptions_of x))) a room ≡ edited m (with (exceptions_at x)) a room
  edited-given a room x = as-given (λ es. edited m (with es) a room) alike x
    where
      alike : (es fs : List Exception) → Unfit es → Unfit fs → edited m (with es) a room ≡ edited m (with fs) a room
      alike es fs u v =
          edited-refused m (with es) a room lowest (refusal-unfit es a u) lowest-some
          ∙ sym (edited-refused m (with fs) a room lowest (refusal-unfit fs a v) lowest-some)

  pub check-given : (a : Asked) (q : Proposal) (room : Room) (x : List ℕ) → check_outcome m (with (exception_list (exceptions_of x))) a q room ≡ check_outcome m (with (exceptions_at x)) a q room
  check-given a q room x = as-given (λ es. check_outcome m (with es) a q room) alike x
    where
      by : (es fs : List Exception) (n : ℕ) → refusal m (with es) a ≡ n → refusal m (with fs) a ≡ n → (n ≡ 0 → ⊥) → check_outcome m (with es) a q room ≡ check_outcome m (with fs) a q room
      by es fs zero h k some = absurd (some refl)
      by es fs (suc n) h k some = check-refused m (with es) a q room n h ∙ sym (check-refused m (with fs) a q room n k)

      alike : (es fs : List Exception) → Unfit es → Unfit fs → check_outcome m (with es) a q room ≡ check_outcome m (with fs) a q room
      alike es fs u v = by es fs lowest (refusal-unfit es a u) (refusal-unfit fs a v) lowest-some

  reference-unfit : (es : List Exception) → Unfit es → reference_refusal m.longest (with es) ≡ lowest
  unfolding lowest reference_refusal reference_tests first_number are_bounds size cds_size fit_exceptions
  reference-unfit es u = rw (u.rising (codons (with es)))

  -- a reference that is written
  pub written-given : (room : ℕ) (x : List ℕ) → written_reference m.longest (with (exception_list (exceptions_of x))) room ≡ written_reference m.longest (with (exceptions_at x)) room
  written-given room x = as-given (λ es. written_reference m.longest (with es) room) alike x
    where
      by : (es fs : List Exception) (n : ℕ) → reference_refusal m.longest (with es) ≡ n → reference_refusal m.longest (with fs) ≡ n → (n ≡ 0 → ⊥)
          → written_reference m.longest (with es) room ≡ written_reference m.longest (with fs) room
      by es fs zero h k some = absurd (some refl)
      by es fs (suc n) h k some = refuses m.longest (with es) room n h ∙ sym (refuses m.longest (with fs) room n k)

      alike : (es fs : List Exception) → Unfit es → Unfit fs → written_reference m.longest (with es) room ≡ written_reference m.longest (with fs) room
      alike es fs u v = by es fs lowest (reference-unfit es u) (reference-unfit fs v) lowest-some

  -- two edits, each with its limit
  pub pair-given : (first second : ℕ) (a b : Asked) (room : PairRoom) (x : List ℕ)
      → pair_outcome (record { longest = m.longest; first = first; second = second }) (with (exception_list (exceptions_of x))) a b room
      ≡ pair_outcome (record { longest = m.longest; first = first; second = second }) (with (exceptions_at x)) a b room
  pair-given first second a b room x = as-given (λ es. pair_outcome (record { longest = m.longest; first = first; second = second }) (with es) a b room) alike x
    where
      alike : (es fs : List Exception) → Unfit es → Unfit fs
          → pair_outcome (record { longest = m.longest; first = first; second = second }) (with es) a b room
          ≡ pair_outcome (record { longest = m.longest; first = first; second = second }) (with fs) a b room
      alike es fs u v =
          reference-refused (record { longest = m.longest; first = first; second = second }) (with es) a b room lowest (reference-unfit es u) lowest-some
          ∙ sym (reference-refused (record { longest = m.longest; first = first; second = second }) (with fs) a b room lowest (reference-unfit fs v) lowest-some)

-- no bytes are no exceptions
pub none-given : (x : List ℕ) → length x ≡ 0 → exceptions_at x ≡ []
unfolding exceptions_at exceptions_in
none-given [] h = refl
none-given (b ∷ x) h = absurd (omega arith)
