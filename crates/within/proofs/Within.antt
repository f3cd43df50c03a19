-- Laws of the longest edit of a call: 62 changes no byte, and any other call is answered as at the module's own limits, of the new bases as they are
-- handed on.
-- Assumes nothing.
use Rattle.std.specs.Prelude.{Option}
use Rattle.std.specs.Prelude.{Result as Returned}
use Rattle.std.specs.Result.{IsErrAnd}
use Rattle.std.proofs.lemmas.Result.{err_from_is_err_and}
use mathlib.Core.Path.{◌≡◌, refl, sym, ◌∙◌}
use mathlib.Core.Bool.{true, false}
use mathlib.Core.List.{List, []}
use Prim.Native.Nat.{ℕ}
use lib.Dec.{ltb}
use Rattle.rules.specs.declared.Edit.{Edit}
use Rattle.rules.specs.declared.Limits.{Limits}
use Rattle.rules.specs.declared.Refusal.{Refusal}
use Rattle.rules.specs.declared.Refusal.TheVariants.{Setting}
use Rattle.rules.specs.declared.Report.{Report}
use Rattle.rules.specs.declared.Verdict.{Verdict}
use Rattle.rules.specs.declared.PairReport.{PairReport}
use Rattle.rules.specs.Bytes.{Result, refused, over}
use Rattle.rules.specs.Refusals.{told}
use Rattle.rules.specs.Reference.{Reference}
use Rattle.rules.specs.Edit.{Asked}
use Rattle.rules.specs.Altered.{altered_transcript, altered_length, frameshift}
use Rattle.rules.specs.Record.{is_unknown}
use Rattle.rules.specs.Refusal.{limits, Room}
use Rattle.rules.specs.Answer.{writes_nothing, outcome, Answers}
use Rattle.rules.specs.Check.{Proposal, checks_nothing, check_outcome}
use Rattle.rules.specs.Pair.{PairRoom, PairOutcome, pair_by, pair_limits, pair_outcome, Pairs}
use Rattle.rules.specs.Panel.{panel_outcome, panel_within}
use Rattle.rules.specs.Views.{asked, room_of}
use Rattle.rules.specs.Longest.{is_given_longest, limits_with, with_longest, outcome_within, check_within, pair_within}
use Rattle.rules.proofs.WithLongest.{bases_within, within_by, outcome-within, check-within}
use Rattle.rules.proofs.PairWithin.{pair-within}
use Rattle.rules.proofs.Panels.{panel_within_lem}
use Rattle.altseq.specs.declared.alone.Transcribed.{Transcribed}
use Rattle.altseq.specs.Transcribing.{written, unwritten, edited_by, edited}
use Rattle.altseq.proofs.Transcribing.{Meets, meets_none}
use Rattle.altseq.proofs.Answering.{writes_nothing_lem}
use Rattle.checks.specs.Checking.{CheckAnswers}
use Rattle.pairs.specs.Carrying.{pair_room_of}
use Rattle.within.specs.Edited.{edited_within}

-- the exit of a `?` with 62
pub exit-set : {A : Type 0} (x : Returned A Refusal) (r : Refusal) → IsErrAnd x (λ y. y ≡ r) → r ≡ Setting → told x ≡ refused 62
exit-set x r h is = let p = err_from_is_err_and x h in rw (p.1, p.2, is)

-- no longest edit: 62, with every buffer as it was
module _ (n : ℕ) (h : is_given_longest n ≡ false) where
  none-given : {A : Type 0} (refusal62 : A) (f : Limits → A) → with_longest n refusal62 f ≡ refusal62
  unfolding with_longest
  none-given refusal62 f = rw h

  pub edited-none : (r : Reference) (a : Asked) (t : List ℕ) (room : ℕ) → Meets (edited_within n r a room) (refused 62) t t
  unfolding edited_within
  edited-none r a t room = meets_none (edited_within n r a room) (refused 62) t (none-given (unwritten (refused 62)) (λ m. edited m r a room))

  pub outcome-none : (r : Reference) (a : Asked) (t p q : List ℕ) → Answers (outcome_within n r a (room_of t p q)) (refused 62) t t p p q q
  unfolding outcome_within
  outcome-none r a t p q =
      writes_nothing_lem (outcome_within n r a (room_of t p q)) (refused 62) t p q (none-given (writes_nothing (refused 62)) (λ m. outcome m r a (room_of t p q)))

  pub panel-none : (r : Reference) (a : Asked) (named : ℕ) (t p q : List ℕ) → Answers (panel_within n r a named (room_of t p q)) (refused 62) t t p p q q
  unfolding panel_within
  panel-none r a named t p q =
      writes_nothing_lem (panel_within n r a named (room_of t p q)) (refused 62) t p q (none-given (writes_nothing (refused 62)) (λ m. panel_outcome m r a named (room_of t p q)))

  pub check-none : (r : Reference) (a : Asked) (k : Proposal) (t p q : List ℕ) → CheckAnswers (check_within n r a k (room_of t p q)) (refused 62) t t p p q q
  unfolding check_within checks_nothing over
  check-none r a k t p q =
      rw (none-given (checks_nothing 62) (λ m. check_outcome m r a k (room_of t p q)))
      (record { says = refl; holds-transcript = refl; holds-reference = refl; holds-altered = refl })

-- the longest edit of a call
module _ (n : ℕ) (h : is_given_longest n ≡ true) where
  is-given : {A : Type 0} (refusal62 : A) (f : Limits → A) → with_longest n refusal62 f ≡ f (limits_with n)
  unfolding with_longest
  is-given refusal62 f = rw h

  module _ (r : Reference) (e : Edit) (new : List ℕ) where
    pub edited-is : (room : ℕ) → edited limits r (asked e (bases_within n e.kind new)) room ≡ edited_within n r (asked e new) room
    unfolding edited_within edited edited_by
    edited-is room =
        sym
        (is-given (unwritten (refused 62)) (λ m. edited m r (asked e new) room)
        ∙ within_by n h r e new (λ k a. edited_by k (is_unknown r a) (ltb room (altered_length r a)) (written (frameshift r a) (altered_transcript r a))) (λ k a b. refl))

    pub outcome-is : (room : Room) → outcome limits r (asked e (bases_within n e.kind new)) room ≡ outcome_within n r (asked e new) room
    unfolding outcome_within
    outcome-is room = sym (is-given (writes_nothing (refused 62)) (λ m. outcome m r (asked e new) room) ∙ outcome-within n h r e new room)

    pub panel-is : (named : ℕ) (room : Room) → panel_outcome limits r (asked e (bases_within n e.kind new)) named room ≡ panel_within n r (asked e new) named room
    unfolding panel_within
    panel-is named room = sym (is-given (writes_nothing (refused 62)) (λ m. panel_outcome m r (asked e new) named room) ∙ panel_within_lem n h r e new named room)

    pub check-is : (k : Proposal) (room : Room) → check_outcome limits r (asked e (bases_within n e.kind new)) k room ≡ check_within n r (asked e new) k room
    unfolding check_within
    check-is k room = sym (is-given (checks_nothing 62) (λ m. check_outcome m r (asked e new) k room) ∙ check-within n h r e new k room)

  -- what is answered of the bases that are handed on
  module _ (r : Reference) (e : Edit) (new given : List ℕ) (is : given ≡ bases_within n e.kind new) where
    pub edited-by : (room : ℕ) (x : Result (Option Transcribed)) (t t' : List ℕ) → Meets (edited limits r (asked e given) room) x t t' → Meets (edited_within n r (asked e new) room) x t t'
    edited-by room x t t' y = rw (← edited-is r e new room, ← is) y

    pub outcome-by : (room : Room) (x : Result Report) (t t' p p' q q' : List ℕ) → Answers (outcome limits r (asked e given) room) x t t' p p' q q' → Answers (outcome_within n r (asked e new) room) x t t' p p' q q'
    outcome-by room x t t' p p' q q' y = rw (← outcome-is r e new room, ← is) y

    pub panel-by : (named : ℕ) (room : Room) (x : Result Report) (t t' p p' q q' : List ℕ) → Answers (panel_outcome limits r (asked e given) named room) x t t' p p' q q'
        → Answers (panel_within n r (asked e new) named room) x t t' p p' q q'
    panel-by named room x t t' p p' q q' y = rw (← panel-is r e new named room, ← is) y

    pub check-by : (k : Proposal) (room : Room) (x : Result Verdict) (t t' p p' q q' : List ℕ) → CheckAnswers (check_outcome limits r (asked e given) k room) x t t' p p' q q'
        → CheckAnswers (check_within n r (asked e new) k room) x t t' p p' q q'
    check-by k room x t t' p p' q q' y = rw (← check-is r e new k room, ← is) y

-- a pair
module _ (n k : ℕ) (r : Reference) (a b : Asked) (t q : List ℕ) where
  refuses : (o : PairOutcome) → o ≡ pair_by 62 [] [] → Pairs o (refused 62) t t q q
  unfolding pair_by over
  refuses o is = rw is (record { says = refl; holds-transcript = refl; holds-altered = refl })

  pub pair-none : is_given_longest n ≡ false → Pairs (pair_within n k r a b (pair_room_of t q)) (refused 62) t t q q
  unfolding pair_within with_longest
  pair-none h = refuses (pair_within n k r a b (pair_room_of t q)) (rw h)

  pub pair-second-none : is_given_longest n ≡ true → is_given_longest k ≡ false → Pairs (pair_within n k r a b (pair_room_of t q)) (refused 62) t t q q
  unfolding pair_within with_longest
  pair-second-none h g = refuses (pair_within n k r a b (pair_room_of t q)) (rw (h, g))

module _ (n k : ℕ) (h : is_given_longest n ≡ true) (g : is_given_longest k ≡ true) (r : Reference) (e f : Edit) (new other given handed : List ℕ) where
  pub pair_is : (room : PairRoom)
      → pair_outcome pair_limits r (asked e (bases_within n e.kind new)) (asked f (bases_within k f.kind other)) room ≡ pair_within n k r (asked e new) (asked f other) room
  unfolding pair_within with_longest limits_with
  pair_is room = sym (rw (h, g) (pair-within n k h g r e f new other room))

  pub pair-by : given ≡ bases_within n e.kind new → handed ≡ bases_within k f.kind other → (room : PairRoom) (x : Result PairReport) (t t' q q' : List ℕ)
      → Pairs (pair_outcome pair_limits r (asked e given) (asked f handed) room) x t t' q q' → Pairs (pair_within n k r (asked e new) (asked f other) room) x t t' q q'
  pair-by is was room x t t' q q' y = rw (← pair_is room, ← is, ← was) y
