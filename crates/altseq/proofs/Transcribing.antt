-- Laws of the altered transcript alone: which answer each way out has.
-- Assumes nothing.
use Rattle.std.specs.Prelude.{Option, None, Some, if◌then◌else◌}
use mathlib.Core.Path.{◌≡◌, refl, sym, ap, subst, ◌∙◌}
use mathlib.Core.Bool.{Bool, true, false}
use mathlib.Core.List.{List}
use Prim.Native.Nat.{ℕ, zero, suc, ◌≤◌, ◌<◌}
use native.Mathlib.Omega.{arith}
use lib.Dec.{ltb}
use borrow.Author.Tests.{lt-ltb, le-ltb}
use Rattle.rules.specs.declared.Form.{Form}
use Rattle.rules.specs.declared.Cds.{Cds}
use Rattle.rules.specs.declared.Exceptions.{Exceptions}
use Rattle.rules.specs.declared.Limits.{Limits}
use Rattle.rules.specs.Bytes.{Result, given, refused, over}
use Rattle.rules.specs.Reference.{Reference, reference_protein}
use Rattle.rules.specs.Edit.{Asked}
use Rattle.rules.specs.Altered.{altered_transcript, altered_length, frameshift}
use Rattle.rules.specs.Record.{is_unknown}
use Rattle.rules.specs.Refusal.{limits, reference_refusal, refusal}
use Rattle.rules.specs.Packed.{letters_by}
use Rattle.rules.specs.Views.{bare, reference_of}
use Rattle.rules.proofs.Refusing.{refused-reference}
use Rattle.reference.specs.declared.Known.{Known}
use Rattle.reference.specs.Known.{known_of, checked_of, Checks, Knows}
use Rattle.reference.proofs.Checking.{checked-accepted, cds-known, form-known, checks}
use Rattle.edits.specs.declared.plans.Plan.{Plan}
use Rattle.edits.specs.Plans.{plan_of}
use Rattle.edits.specs.Decisions.{decision_of}
use Rattle.edits.proofs.Deciding.{decided-refusal, decided-unknown}
use Rattle.transcript.specs.Carrying.{carried_by, Fits}
use Rattle.transcript.proofs.Transcripts.{fits-of, carried_by_is}
use Rattle.altseq.specs.declared.alone.Transcribed.{Transcribed}
use Rattle.altseq.specs.Transcribing.{Edited, unwritten, written, edited_by, edited, made_by}
use Rattle.altseq.proofs.Answering.{unknown-is, allowed-is, none-refused, not-unknown, plan-is}

-- the answer, and what the buffer holds
abbrev pub Meets : Edited → Result (Option Transcribed) → List ℕ → List ℕ → Type 0
Meets o x t t' = (x ≡ o.answer) × (t' ≡ over o.transcript t)

pub meets_none : (o : Edited) (x : Result (Option Transcribed)) (t : List ℕ) → o ≡ unwritten x → Meets o x t t
unfolding over
meets_none o x t h = (sym (ap (λ (o : Edited). o.answer) h), sym (ap (λ (o : Edited). over o.transcript t) h))

-- more room
pub fits_more : (p : Plan) (letters new : List ℕ) (room more : ℕ) → Fits p letters new room → room ≤ more → Fits p letters new more
fits_more p letters new room more f h = record { source = f.source; rising = f.rising; ends = f.ends; written = omega (arith, f.written) }

module _ (p : Plan) (letters new : List ℕ) (room : ℕ) where
  pub made-short : room < p.length → made_by p letters new room ≡ unwritten (refused 11)
  unfolding made_by
  made-short h = rw (lt-ltb room p.length h)

  pub made : p.length ≤ room → made_by p letters new room ≡ written p.shift (carried_by p letters new)
  unfolding made_by
  made h = rw (le-ltb room p.length h)

-- by the tests in their order
module _ (m : Limits) (r : Reference) (a : Asked) (room : ℕ) where
  pub edited-refused : (n : ℕ) → refusal m r a ≡ n → (n ≡ 0 → ⊥) → edited m r a room ≡ unwritten (refused n)
  unfolding edited edited_by
  edited-refused zero h some = absurd (some refl)
  edited-refused (suc n) h some = rw h

  edited-unknown : refusal m r a ≡ 0 → is_unknown r a ≡ true → edited m r a room ≡ unwritten (given None)
  unfolding edited edited_by
  edited-unknown h u = rw (h, u)

  edited-goes : refusal m r a ≡ 0 → is_unknown r a ≡ false → (p : Plan) → p ≡ plan_of r a → edited m r a room ≡ made_by p r.letters a.new room
  unfolding edited edited_by made_by plan_of
  edited-goes h u p is = rw (h, u, is, carried_by_is r a) (by (ltb room (altered_length r a)) (written (frameshift r a) (altered_transcript r a)))
    where
      by : (short : Bool) (all : Edited) → edited_by 0 false short all ≡ (if short then unwritten (refused 11) else all)
      by true all = refl
      by false all = refl

  pub reference-refused : (n : ℕ) → reference_refusal m.longest r ≡ n → (n ≡ 0 → ⊥) → edited m r a room ≡ unwritten (refused n)
  reference-refused zero h some = absurd (some refl)
  reference-refused (suc n) h some = edited-refused (suc n) (refused-reference m r a n h) some

-- what is known of a reference that the check accepts
module _ (f : Form) (s : List ℕ) (c : Cds) (e : Exceptions) (k : Known) (is : given k ≡ checked_of limits.longest f s c e) where
  pub form-at : k.form ≡ f
  form-at =
      let ok = checked-accepted limits.longest f s c e k is in
      form-known limits f s c e k ok.0 ok.1

  pub cds-at : k.cds ≡ c
  cds-at =
      let ok = checked-accepted limits.longest f s c e k is in
      cds-known limits f s c e k ok.0 ok.1

  pub known_at : Knows limits s k e (reference_protein (reference_of s k.cds e))
  known_at =
      let ok = checked-accepted limits.longest f s c e k is in
      record {
        accepted = rw cds-at ok.0;
        is = ok.1 ∙ ap (λ (c : Cds). known_of f s c e) (sym cds-at) ∙ ap (λ (f : Form). known_of f s k.cds e) (sym form-at);
        read = refl;
        small = omega arith;
      }

planned : (r : Reference) (a : Asked) → altered_length r a ≤ (plan_of r a).length
unfolding plan_of
planned r a = omega arith

-- what is decided of an edit of a checked reference
module _ (m : Limits) (s : List ℕ) (k : Known) (e : Exceptions) (protein : List ℕ) (known : Knows m s k e protein) (a : Asked) where
  pub decided-refused : (room n : ℕ) → refused n ≡ decision_of m.most k.several (bare s k.cds) a → edited m (reference_of s k.cds e) a room ≡ unwritten (refused n)
  decided-refused room n said =
      let both = decided-refusal m.most k.several (bare s k.cds) a n (sym said) in
      edited-refused m (reference_of s k.cds e) a room n (allowed-is m s k e protein known a ∙ both.0) (λ z. omega (arith, both.1))

  pub decided-open : (room : ℕ) → given None ≡ decision_of m.most k.several (bare s k.cds) a → edited m (reference_of s k.cds e) a room ≡ unwritten (given None)
  decided-open room said =
      let both = decided-unknown m.most k.several (bare s k.cds) a (sym said) in
      edited-unknown m (reference_of s k.cds e) a room (allowed-is m s k e protein known a ∙ both.0) (unknown-is m s k e protein known a ∙ both.1)

  module _ (p : Plan) (said : given (Some p) ≡ decision_of m.most k.several (bare s k.cds) a) where
    pub decided-goes : (room : ℕ) → edited m (reference_of s k.cds e) a room ≡ made_by p s a.new room
    decided-goes room =
        edited-goes m (reference_of s k.cds e) a room (none-refused m s k e protein known a p (sym said)) (not-unknown m s k e protein known a p (sym said)) p
        (plan-is m s k e protein known a p (sym said))

    pub decided-fits : Fits p s a.new p.length
    decided-fits =
        subst (λ (p : Plan). Fits p s a.new p.length) (sym (plan-is m s k e protein known a p (sym said)))
        (fits-of m (reference_of s k.cds e) a (none-refused m s k e protein known a p (sym said)) _ (planned (reference_of s k.cds e) a))

-- an edit of a reference that the check accepts, by the form and the CDS that are known of it
module _ (f : Form) (letters : List ℕ) (c : Cds) (e : Exceptions) (k : Known) (is : given k ≡ checked_of limits.longest f (letters_by f letters) c e) where
  abbrev own : List ℕ
  own = letters_by f letters

  same-letters : letters_by k.form letters ≡ own
  same-letters = ap (λ (f : Form). letters_by f letters) (form-at f own c e k is)

  pub asks-known : Checks (letters_by k.form letters) k
  asks-known = rw same-letters (checks limits own k e _ (known_at f own c e k is))

  module _ (a : Asked) where
    abbrev Decides : Result (Option Plan) → Type 0
    Decides d = d ≡ decision_of limits.most k.several (bare (letters_by k.form letters) k.cds) a

    module _ (room : ℕ) where
      by-cds : edited limits (reference_of own c e) a room ≡ edited limits (reference_of own k.cds e) a room
      by-cds = ap (λ (c : Cds). edited limits (reference_of own c e) a room) (sym (cds-at f own c e k is))

      pub edit-refused : (n : ℕ) → Decides (refused n) → edited limits (reference_of own c e) a room ≡ unwritten (refused n)
      edit-refused n said = by-cds ∙ decided-refused limits own k e _ (known_at f own c e k is) a room n (rw same-letters at said)

      pub edit-open : Decides (given None) → edited limits (reference_of own c e) a room ≡ unwritten (given None)
      edit-open said = by-cds ∙ decided-open limits own k e _ (known_at f own c e k is) a room (rw same-letters at said)

      pub edit-goes : (p : Plan) → Decides (given (Some p)) → edited limits (reference_of own c e) a room ≡ made_by p own a.new room
      edit-goes p said = by-cds ∙ decided-goes limits own k e _ (known_at f own c e k is) a p (rw same-letters at said) room

    pub edit-fits : (p : Plan) → Decides (given (Some p)) → Fits p own a.new p.length
    edit-fits p said = decided-fits limits own k e _ (known_at f own c e k is) a p (rw same-letters at said)
