-- Laws of the whole answer: what is decided of an edit of a checked reference is the outcome of document 01.
-- Assumes nothing.
use Rattle.std.specs.Prelude.{Option, None, Some}
use mathlib.Core.Path.{◌≡◌, refl, sym, ap, subst, ◌∙◌}
use mathlib.Core.Bool.{false, ◌||◌}
use mathlib.Core.List.{List}
use Prim.Native.Nat.{ℕ, zero, suc, ◌-◌, ◌≤◌}
use native.Mathlib.Omega.{arith}
use Rattle.rules.specs.declared.Cds.{Cds}
use Rattle.rules.specs.declared.Exceptions.{Exceptions}
use Rattle.rules.specs.declared.Limits.{Limits}
use Rattle.rules.specs.declared.Refusal.{Refusal}
use Rattle.rules.specs.declared.Report.{Report}
use Rattle.rules.specs.Bytes.{Result, given, refused, first_number, unless, over}
use Rattle.rules.specs.Reference.{Reference, size, cds_size}
use Rattle.rules.specs.Edit.{Asked, start_place, end_place, ends_past, is_misplaced, is_disordered, edit_tests}
use Rattle.rules.specs.Altered.{altered_transcript, altered_length, frameshift}
use Rattle.rules.specs.Protein.{altered_protein}
use Rattle.rules.specs.Record.{is_unknown, silent_number}
use Rattle.rules.specs.Refusals.{refusal_number}
use Rattle.rules.specs.Refusal.{reference_refusal, refusal, Room, room_refusal}
use Rattle.rules.specs.Answer.{Outcome, writes_nothing, full_report, writes_all, outcome, Answers}
use Rattle.rules.specs.Views.{bare, reference_of}
use Rattle.rules.proofs.Refusing.{refused-reference, refused-edit}
use Rattle.rules.proofs.Altered.{altered_length_lem}
use Rattle.rules.proofs.Answers.{refused-by, unknown-by, room_by as room_refused, all-by}
use Rattle.rules.proofs.Records.{record-known}
use Rattle.reference.specs.declared.Known.{Known}
use Rattle.reference.specs.Known.{known_of, Knows}
use Rattle.reference.proofs.Judging.{told-refused}
use Rattle.edits.specs.declared.plans.Plan.{Plan}
use Rattle.edits.specs.Plans.{plan_of}
use Rattle.edits.specs.Decisions.{decision_of}
use Rattle.edits.proofs.Planning.{bare_plan}
use Rattle.edits.proofs.Deciding.{decided-refusal, decided-unknown, decided-plan}
use Rattle.transcript.proofs.Transcripts.{carried_by_is}
use Rattle.altseq.specs.Carried.{protein_by, report_by}
use Rattle.altseq.proofs.Reusing.{protein_of_lem, looked_is}
use Rattle.transcript.specs.Carrying.{carried_by}
use Rattle.altseq.specs.Decided.{room_by, with_room, decided_outcome, reference_in, AnswersBeside}

pub writes_nothing_lem : (o : Outcome) (x : Result Report) (t p q : List ℕ) → o ≡ writes_nothing x → Answers o x t t p p q q
unfolding writes_nothing over
writes_nothing_lem o x t p q h =
    subst (λ (o : Outcome). Answers o x t t p p q q) (sym h)
    (record { says = refl; holds-transcript = refl; holds-reference = refl; holds-altered = refl })

-- a refusal reports no R
refuses : (o : Outcome) (n : ℕ) (protein : List ℕ) (room : ℕ) (t q : List ℕ) → o ≡ writes_nothing (refused n) → AnswersBeside o (refused n) protein room t t q q
unfolding writes_nothing over reference_in
refuses o n protein room t q h =
    subst (λ (o : Outcome). AnswersBeside o (refused n) protein room t t q q) (sym h)
    (record {
      says = refl;
      holds-transcript = refl;
      keeps-reference = refl;
      holds-altered = refl;
      copies = record {
        there = λ p w. let z : ◌≡◌ {A = ℕ} 0 1 = cc in absurd (omega arith);
        has_room = λ p w. let z : ◌≡◌ {A = ℕ} 0 1 = cc in absurd (omega arith);
      };
    })

-- a refused reference
pub reference-refused : (m : Limits) (r : Reference) (a : Asked) (lent : Room) (protein : List ℕ) (room : ℕ) (t q : List ℕ) (n : ℕ) → reference_refusal m.longest r ≡ n → (n ≡ 0 → ⊥)
    → AnswersBeside (outcome m r a lent) (refused n) protein room t t q q
reference-refused m r a lent protein room t q zero h some = absurd (some refl)
reference-refused m r a lent protein room t q (suc n) h some =
    refuses (outcome m r a lent) (suc n) protein room t q (refused-by m r a lent n (refused-reference m r a n h))

-- the tests look at no exception
module _ (s : List ℕ) (c : Cds) (e : Exceptions) (a : Asked) where
  tests-bare : (most : ℕ) → first_number (edit_tests most (bare s c) a) ≡ first_number (edit_tests most (reference_of s c e) a)
  unfolding edit_tests is_misplaced is_disordered start_place end_place ends_past size
  tests-bare most = refl

  past-bare : ends_past (bare s c) a ≡ ends_past (reference_of s c e) a
  unfolding ends_past end_place size
  past-bare = refl

-- the outcome of a plan that goes is all that document 01 writes
module _ (r : Reference) (a : Asked) (p : Plan) (is : p ≡ plan_of r a) (known : is_unknown r a ≡ false) where
  pub protein-is : protein_by r p a.new ≡ altered_protein r a
  protein-is = rw is (protein_of_lem r a)

  pub goes-all : (m : Limits) → refusal m r a ≡ 0 → decided_outcome r (given (Some p)) a.new ≡ writes_all r a
  unfolding decided_outcome writes_all full_report report_by plan_of
  goes-all m allowed =
      let flag : p.shift ≡ frameshift r a = ap (λ (p : Plan). p.shift) is in
      let number : p.number ≡ silent_number r a = ap (λ (p : Plan). p.number) is in
      let carried : carried_by p r.letters a.new ≡ altered_transcript r a = rw is (carried_by_is r a) in
      rw (looked_is m r a allowed p is known, carried, protein-is, flag, number, record-known r a known)

-- an edit of a checked reference
module _ (m : Limits) (s : List ℕ) (k : Known) (e : Exceptions) (protein : List ℕ) (known : Knows m s k e protein) (a : Asked) where
  pub unknown-is : is_unknown (reference_of s k.cds e) a ≡ (k.several || ends_past (bare s k.cds) a)
  unfolding is_unknown known_of
  unknown-is =
      let several = ap (λ (k : Known). k.several) known.is in
      rw (several, past-bare s k.cds e a)

  pub allowed-is : refusal m (reference_of s k.cds e) a ≡ first_number (edit_tests m.most (bare s k.cds) a)
  allowed-is = refused-edit m (reference_of s k.cds e) a known.accepted ∙ sym (tests-bare s k.cds e a m.most)

  -- the edit goes
  module _ (p : Plan) (goes : decision_of m.most k.several (bare s k.cds) a ≡ given (Some p)) where
    pub none-refused : refusal m (reference_of s k.cds e) a ≡ 0
    none-refused = allowed-is ∙ (decided-plan m.most k.several (bare s k.cds) a p goes).0

    pub not-unknown : is_unknown (reference_of s k.cds e) a ≡ false
    not-unknown = unknown-is ∙ (decided-plan m.most k.several (bare s k.cds) a p goes).1

    pub plan-is : p ≡ plan_of (reference_of s k.cds e) a
    plan-is = sym (bare_plan (reference_of s k.cds e) a ∙ (decided-plan m.most k.several (bare s k.cds) a p goes).2)

    length-is : p.length ≡ altered_length (reference_of s k.cds e) a
    unfolding plan_of
    length-is = ap (λ (p : Plan). p.length) plan-is

    pub plan-front : k.cds.cs - 1 ≤ p.length
    plan-front = omega (arith, length-is, (altered_length_lem m (reference_of s k.cds e) a none-refused).front)

    pub room-is : (room : Room) → room_refusal (reference_of s k.cds e) a room ≡ room_by k.cds p.length room
    unfolding room_refusal cds_size
    room-is room = rw length-is

    pub room-goes : (room : Room) → outcome m (reference_of s k.cds e) a room ≡ decided_outcome (reference_of s k.cds e) (unless (room_by k.cds p.length room) (Some p)) a.new
    unfolding unless decided_outcome
    room-goes room = by (room_by k.cds p.length room) (room-is room)
      where
        by : (n : ℕ) → room_refusal (reference_of s k.cds e) a room ≡ n → outcome m (reference_of s k.cds e) a room ≡ decided_outcome (reference_of s k.cds e) (unless n (Some p)) a.new
        by zero h = all-by m (reference_of s k.cds e) a room none-refused not-unknown h ∙ sym (goes-all (reference_of s k.cds e) a p plan-is not-unknown m none-refused)
        by (suc n) h = room_refused m (reference_of s k.cds e) a room n none-refused not-unknown h

  -- what was decided, with room or without, is the outcome
  pub decided-is : (room : Room) → outcome m (reference_of s k.cds e) a room
      ≡ decided_outcome (reference_of s k.cds e) (with_room k.cds room (decision_of m.most k.several (bare s k.cds) a)) a.new
  unfolding with_room decided_outcome
  decided-is room = by (decision_of m.most k.several (bare s k.cds) a) refl
    where
      no : (n : ℕ) → refusal m (reference_of s k.cds e) a ≡ n → 1 ≤ n → outcome m (reference_of s k.cds e) a room ≡ writes_nothing (refused n)
      no zero h some = absurd (omega arith)
      no (suc n) h some = refused-by m (reference_of s k.cds e) a room n h

      by : (d : Result (Option Plan)) → decision_of m.most k.several (bare s k.cds) a ≡ d
          → outcome m (reference_of s k.cds e) a room ≡ decided_outcome (reference_of s k.cds e) (with_room k.cds room d) a.new
      by (refused n) h =
          let both = decided-refusal m.most k.several (bare s k.cds) a n h in
          no n (allowed-is ∙ both.0) both.1
      by (given None) h =
          let both = decided-unknown m.most k.several (bare s k.cds) a h in
          unknown-by m (reference_of s k.cds e) a room (allowed-is ∙ both.0) (unknown-is ∙ both.1)
      by (given (Some p)) h = room-goes p h room

-- the ways out of `with_room`
module _ (c : Cds) (room : Room) (d : Result (Option Plan)) where
  pub stays-refused : (n : ℕ) → d ≡ refused n → refused n ≡ with_room c room d
  unfolding with_room
  stays-refused n h = rw h

  pub stays-unknown : d ≡ given None → given None ≡ with_room c room d
  unfolding with_room
  stays-unknown h = rw h

  module _ (p : Plan) (h : d ≡ given (Some p)) where
    pub room-refused : (x : Refusal) → refusal_number x ≡ room_by c p.length room → refused (refusal_number x) ≡ with_room c room d
    unfolding with_room
    room-refused x is = rw h (told-refused x (room_by c p.length room) (Some p) is)

    pub room-enough : 0 ≡ room_by c p.length room → given (Some p) ≡ with_room c room d
    unfolding with_room unless
    room-enough is = rw (h, ← is)

-- only a plan with room goes
pub room_left : (c : Cds) (room : Room) (d : Result (Option Plan)) (p : Plan) → with_room c room d ≡ given (Some p) → (d ≡ given (Some p)) × (room_by c p.length room ≡ 0)
unfolding with_room unless
room_left c room (refused n) p h = let z : ◌≡◌ {A = ℕ} 0 1 = cc in absurd (omega arith)
room_left c room (given None) p h = let z : ◌≡◌ {A = ℕ} 0 1 = cc in absurd (omega arith)
room_left c room (given (Some q)) p h = by (room_by c q.length room) refl h
  where
    by : (n : ℕ) → room_by c q.length room ≡ n → unless n (Some q) ≡ given (Some p) → (given (Some q) ≡ given (Some p)) × (room_by c p.length room ≡ 0)
    by zero z g = let same : q ≡ p = cc in (g, ap (λ (p : Plan). room_by c p.length room) (sym same) ∙ z)
    by (suc n) z g = let z : ◌≡◌ {A = ℕ} 0 1 = cc in absurd (omega arith)
