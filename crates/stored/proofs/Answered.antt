-- Laws of an edit of a stored reference: which outcome it has, and that there is a single answer.
-- Assumes nothing.
use mathlib.Core.Path.{◌≡◌, refl, sym, ap, subst, ◌∙◌}
use mathlib.Core.Bool.{true, false}
use mathlib.Core.List.{List}
use Prim.Native.Nat.{ℕ, zero, suc}
use native.Mathlib.Omega.{arith}
use Rattle.rules.specs.declared.Exceptions.{Exceptions}
use Rattle.rules.specs.declared.Change.{Change}
use Rattle.rules.specs.declared.Limits.{Limits}
use Rattle.rules.specs.declared.Record.TheVariants.{Changed}
use Rattle.rules.specs.declared.Report.{Report}
use Rattle.rules.specs.Bytes.{Result, given, refused, unless}
use Rattle.rules.specs.Reference.{Reference}
use Rattle.rules.specs.Edit.{Asked}
use Rattle.rules.specs.Record.{part_of}
use Rattle.rules.specs.Refusal.{reference_refusal, Room}
use Rattle.rules.specs.Stored.{reference_form, fields, assembled_in, checked, fitted, read_reference}
use Rattle.rules.specs.Answer.{Outcome, writes_nothing, outcome, Answers}
use Rattle.rules.specs.Views.{reference_of}
use Rattle.rules.proofs.Refusing.{refused-reference}
use Rattle.rules.proofs.Answers.{refused-by, Alike, single}
use Rattle.altseq.proofs.Answering.{writes_nothing_lem}
use Rattle.altseq.proofs.Promised as promised
use Rattle.altseq.proofs.Promised.{Replays}
use Rattle.stored_fields.specs.declared.field_places.StoredAt.{StoredAt}
use Rattle.stored_fields.specs.Held.{exceptions_of}
use Rattle.stored.specs.Outcomes.{outcome_of}
use Rattle.stored_fields.specs.Reading.{is_there, letters_at, placed_reference, Placed, Reads}
use Rattle.stored.proofs.Judged.{taken_at, taken-refusal, taken-same, taken, is-checked}

pub refuses : (m : Limits) (x : Result Reference) (a : Asked) (room : Room) (t p q : List ℕ) (n : ℕ) → x ≡ refused n
    → Answers (outcome_of m x a room) (refused n) t t p p q q
unfolding outcome_of
refuses m x a room t p q n h = writes_nothing_lem (outcome_of m x a room) (refused n) t p q (rw h)

module _ (m : Limits) (s : List ℕ) (p : StoredAt) (a : Asked) (room : Room) where
  refused-outcome : (r : Reference) (n : ℕ) → reference_refusal m.longest r ≡ suc n → outcome m r a room ≡ writes_nothing (refused (suc n))
  refused-outcome r n h = refused-by m r a room n (refused-reference m r a n h)

  -- the reference as a call takes it has the outcome of the reference that stands there
  taken-outcome : Placed s p → outcome m (taken_at s p) a room ≡ outcome m (placed_reference s p) a room
  taken-outcome in_place = by (reference_refusal m.longest (placed_reference s p)) refl
    where
      by : (n : ℕ) → reference_refusal m.longest (placed_reference s p) ≡ n → outcome m (taken_at s p) a room ≡ outcome m (placed_reference s p) a room
      by zero e = ap (λ (r : Reference). outcome m r a room) (taken-same m.longest s p in_place e)
      by (suc n) e = refused-outcome (taken_at s p) n (taken-refusal m.longest s p in_place ∙ e) ∙ sym (refused-outcome (placed_reference s p) n e)

  pub answers : Placed s p → (letters : List ℕ) (e : Exceptions) (x : Result Report) (t t' q q' u u' : List ℕ) → letters ≡ letters_at s p → e ≡ exceptions_of (part_of p.exceptions s)
      → Answers (outcome m (reference_of letters p.cds e) a room) x t t' q q' u u' → Answers (outcome m (placed_reference s p) a room) x t t' q q' u u'
  answers in_place letters e x t t' q q' u u' are is k =
      subst (λ (o : Outcome). Answers o x t t' q q' u u')
      (ap (λ (r : Reference). outcome m r a room) (taken m.longest s p in_place letters e are is) ∙ taken-outcome in_place) k

  -- which is that of the reference that is stored, where no letters are joined
  stored-outcome : Reads s (assembled_in (fields reference_form s)) (given p) → is_there p.second ≡ false → outcome m (placed_reference s p) a room ≡ outcome_of m (read_reference m.longest 0 s) a room
  unfolding outcome_of unless read_reference fitted
  stored-outcome found one = rw ((found.stands p refl).joined, one, is-checked m.longest s p found) (by (reference_refusal m.longest (placed_reference s p)) refl)
    where
      by : (n : ℕ) → reference_refusal m.longest (placed_reference s p) ≡ n → outcome m (placed_reference s p) a room ≡ outcome_of m (fitted 0 false (unless n (placed_reference s p))) a room
      by zero e = refl
      by (suc n) e = refused-outcome (placed_reference s p) n e

  pub stored-answers : Reads s (assembled_in (fields reference_form s)) (given p) → is_there p.second ≡ false → (x : Result Report) (t t' q q' u u' : List ℕ)
      → Answers (outcome m (placed_reference s p) a room) x t t' q q' u u' → Answers (outcome_of m (read_reference m.longest 0 s) a room) x t t' q q' u u'
  stored-answers found one x t t' q q' u u' k = subst (λ (o : Outcome). Answers o x t t' q q' u u') (stored-outcome found one) k

-- letters that have to be joined
pub joined-reading : (longest : ℕ) (s : List ℕ) (p : StoredAt) → Reads s (assembled_in (fields reference_form s)) (given p) → is_there p.second ≡ true
    → (n : ℕ) → fitted 0 true (checked longest (given (placed_reference s p))) ≡ refused n → read_reference longest 0 s ≡ refused n
unfolding read_reference checked
joined-reading longest s p found two n e = rw ((found.stands p refl).joined, two, is-checked longest s p found) e

-- two answers to one call, with the same buffers lent, are the same, and so is every byte that they leave
pub single_answer : (m : Limits) (x : Result Reference) (a : Asked) (room : Room) (a₁ a₂ : Result Report) (t t₁ t₂ p p₁ p₂ q q₁ q₂ : List ℕ)
    → Answers (outcome_of m x a room) a₁ t t₁ p p₁ q q₁ → Answers (outcome_of m x a room) a₂ t t₂ p p₂ q q₂ → Alike a₁ a₂ t₁ t₂ p₁ p₂ q₁ q₂
single_answer m x a room a₁ a₂ t t₁ t₂ p p₁ p₂ q q₁ q₂ h k = single (outcome_of m x a room) a₁ a₂ t t₁ t₂ p p₁ p₂ q q₁ q₂ h k

-- demand 3, of the bytes in the buffers of an edit of a stored reference that is answered Changed
pub demanded : (m : Limits) (x : Result Reference) (a : Asked) (room : Room) (p : Report) (c : Change) (t t' q q' s s' : List ℕ)
    → Answers (outcome_of m x a room) (given p) t t' q q' s s' → p.found ≡ Changed c → Replays p c q' s'
unfolding outcome_of writes_nothing
demanded m (refused n) a room p c t t' q q' s s' h f = let z : ◌≡◌ {A = ℕ} 0 1 = cc in absurd (omega arith)
demanded m (given r) a room p c t t' q q' s s' h f = promised.demanded m r a room p c t t' q q' s s' h f
