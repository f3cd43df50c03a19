-- Laws of the whole answer to a proposed record: what is decided, and what is judged, is the outcome of document 02.
-- Assumes nothing.
use Rattle.std.specs.Prelude.{Some, if◌then◌else◌}
use mathlib.Core.Path.{◌≡◌, refl, sym, ap, subst, ◌∙◌}
use mathlib.Core.Bool.{Bool, true, false, not}
use mathlib.Core.List.{List, [], ◌∷◌}
use Prim.Native.Nat.{ℕ, zero, suc, ◌≤◌}
use native.Mathlib.Omega.{arith}
use lib.ListN.{length, take}
use lib.Seq.{take-length, take-take}
use Rattle.rules.specs.declared.Cds.{Cds}
use Rattle.rules.specs.declared.Edit.{Edit}
use Rattle.rules.specs.declared.Exceptions.{Exceptions}
use Rattle.rules.specs.declared.Verdict.{Verdict}
use Rattle.rules.specs.Bytes.{Result, given, refused, over, ◌↯◌, first_number}
use Rattle.rules.specs.Reference.{Reference, cds_size, reference_protein}
use Rattle.rules.specs.Edit.{Asked}
use Rattle.rules.specs.Altered.{altered_transcript}
use Rattle.rules.specs.Protein.{altered_protein}
use Rattle.rules.specs.Record.{is_unknown}
use Rattle.rules.specs.Refusal.{limits, reference_refusal, refusal, Room, room_refusal}
use Rattle.rules.specs.Check.{Proposal, is_changed, is_proposal, proposal_tests, CheckOutcome, checks_nothing, verdict_of, checks_all, check_by, check_outcome}
use Rattle.rules.specs.Views.{bare, asked, reference_of}
use Rattle.rules.proofs.Refusing.{refused-reference}
use Rattle.reference.specs.declared.Known.{Known}
use Rattle.reference.specs.Known.{Knows}
use Rattle.reference.proofs.Checking.{residues-is}
use Rattle.edits.specs.declared.plans.Plan.{Plan}
use Rattle.edits.specs.Plans.{plan_of}
use Rattle.transcript.specs.Carrying.{carried_by}
use Rattle.transcript.proofs.Transcripts.{carried_by_is}
use Rattle.altseq.specs.Carried.{protein_by, Carries}
use Rattle.altseq.specs.Decided.{decided_in}
use Rattle.altseq.proofs.Whole.{room_with, left, carries, room_for, protein-length}
use Rattle.checks.specs.Changing.{changing_by, changing_in}
use Rattle.checks.specs.Checking.{CheckAnswers, Holds, verdict_by, judged_outcome, decided_check, reference_in}
use Rattle.checks.proofs.Deciding.{changed-goes}

-- what a plan makes is what the edit makes
module _ (q : Proposal) (r : Reference) (a : Asked) where
  carried-is : carried_by (plan_of r a) r.letters a.new ≡ altered_transcript r a
  carried-is = carried_by_is r a

  protein-is : protein_by r (plan_of r a) a.new ≡ altered_protein r a
  unfolding protein_by altered_protein
  protein-is = rw carried-is

  all-is : is_proposal q (reference_protein r) ≡ true → judged_outcome q r (plan_of r a) a.new ≡ checks_all q r a
  unfolding judged_outcome verdict_by checks_all verdict_of
  all-is h = rw (h, protein-is, carried-is)

  none_is : is_proposal q (reference_protein r) ≡ false → judged_outcome q r (plan_of r a) a.new ≡ checks_nothing 27
  unfolding judged_outcome
  none_is h = rw h

  -- 26 is decided, then 27
  pub outcome-is : (room : Room) → check_outcome limits r a q room ≡ decided_check q r (changing_in r a room) a.new
  unfolding check_outcome changing_in proposal_tests check_by changing_by decided_check first_number
  outcome-is room = by (refusal limits r a) (is_unknown r a) (room_refusal r a room) (is_changed (reference_protein r) (altered_protein r a)) (is_proposal q (reference_protein r)) refl
    where
      by : (n : ℕ) (u : Bool) (m : ℕ) (c b : Bool) → is_proposal q (reference_protein r) ≡ b
          → check_by n u m (first_number (not c ↯ 26 ∷ not b ↯ 27 ∷ [])) (checks_all q r a) ≡ decided_check q r (changing_by n u m c (plan_of r a)) a.new
      by (suc n) u m c b h = refl
      by zero true m c b h = refl
      by zero false (suc m) c b h = refl
      by zero false zero false b h = refl
      by zero false zero true true h = sym (all-is h)
      by zero false zero true false h = sym (none_is h)

-- a refused reference
pub reference-refused : (r : Reference) (a : Asked) (prop : Proposal) (t : List ℕ) (room : ℕ) (out q : List ℕ) (n : ℕ) → reference_refusal limits.longest r ≡ n → (n ≡ 0 → ⊥)
    → Holds (check_outcome limits r a prop (room_with t room q)) (refused n) t t room out q q
unfolding check_outcome check_by checks_nothing over reference_in
reference-refused r a prop t room out q zero h some = absurd (some refl)
reference-refused r a prop t room out q (suc n) h some =
    rw (refused-reference limits r a n h)
    (record {
      says = refl;
      holds-transcript = refl;
      holds-altered = refl;
      stands = refl;
      there = λ v w. let z : ◌≡◌ {A = ℕ} 0 1 = cc in absurd (omega arith);
      has_room = λ v w. let z : ◌≡◌ {A = ℕ} 0 1 = cc in absurd (omega arith);
    })

module _ (s : List ℕ) (k : Known) (e : Exceptions) (protein : List ℕ) (known : Knows limits s k e protein) (edit : Edit) (new t : List ℕ) (room : ℕ) (q : List ℕ) (prop : Proposal) (d : Result Plan)
    (is : d ≡ changing_in (reference_of s k.cds e) (asked edit new) (room_with t room q)) where
  abbrev r : Reference
  r = reference_of s k.cds e

  goes : (x : Plan) → d ≡ given x → decided_in k.several (bare s k.cds) (asked edit new) (room_with t room q) ≡ given (Some x)
  goes x h = changed-goes s k e protein known edit new (room_with t room q) x (sym is ∙ h)

  pub carries-on : (x : Plan) → d ≡ given x → Carries s k e protein x new t q
  carries-on x h = carries s k e protein known edit new t room q _ refl x (goes x h)

  -- R has room where the edit goes
  room_fits : (x : Plan) → d ≡ given x → length (reference_protein r) ≤ room
  unfolding cds_size
  room_fits x h =
      let fits = room_for k.cds x.length (room_with t room q) (left s k e protein known edit new t room q _ refl x (goes x h)).1 in
      omega (arith, protein-length s k e protein known edit new t room q _ refl, fits.reference)

  some-verdict : (b : Bool) (x : Plan) (v : Verdict)
      → (if b then record { answer = given (verdict_by prop r x new); transcript = carried_by x s new; reference = reference_protein r; altered = protein_by r x new } else checks_nothing 27).answer ≡ given v
      → v.reference ≡ length (reference_protein r)
  unfolding checks_nothing verdict_by
  some-verdict true x v h = let same : v ≡ verdict_by prop r x new = cc in ap (λ (v : Verdict). v.reference) same
  some-verdict false x v h = let z : ◌≡◌ {A = ℕ} 0 1 = cc in absurd (omega arith)

  -- an answer that tells lengths is a plan's
  tells-reference : (x : Result Verdict) → x ≡ (decided_check prop r d new).answer → (v : Verdict) → x ≡ given v → (v.reference ≡ length (reference_protein r)) × (length (reference_protein r) ≤ room)
  unfolding decided_check judged_outcome checks_nothing
  tells-reference x h v g = by d refl (sym h ∙ g)
    where
      by : (f : Result Plan) → d ≡ f → (decided_check prop r f new).answer ≡ given v → (v.reference ≡ length (reference_protein r)) × (length (reference_protein r) ≤ room)
      by (refused n) w z = let z : ◌≡◌ {A = ℕ} 0 1 = cc in absurd (omega arith)
      by (given f) w z =
          (some-verdict (is_proposal prop (reference_protein r)) f v z, room_fits f w)

  reference-is : (x : Result Verdict) → x ≡ (decided_check prop r d new).answer → reference_in x protein ≡ (decided_check prop r d new).reference
  unfolding reference_in decided_check judged_outcome checks_nothing verdict_by
  reference-is x h = rw h (by d)
    where
      judged : (b : Bool) (f : Plan)
          → reference_in (if b then record { answer = given (verdict_by prop r f new); transcript = carried_by f s new; reference = reference_protein r; altered = protein_by r f new } else checks_nothing 27).answer protein
          ≡ (if b then record { answer = given (verdict_by prop r f new); transcript = carried_by f s new; reference = reference_protein r; altered = protein_by r f new } else checks_nothing 27).reference
      judged true f = rw known.read (take-length (reference_protein r))
      judged false f = refl

      by : (d : Result Plan) → reference_in (decided_check prop r d new).answer protein ≡ (decided_check prop r d new).reference
      by (refused n) = refl
      by (given f) = judged (is_proposal prop (reference_protein r)) f

  -- R stands at the beginning of the room that it was read into
  module _ (out : List ℕ) (reads : protein ≡ take k.residues out) (within : k.residues ≤ length out) (x : Result Verdict) (h : x ≡ (decided_check prop r d new).answer) where
    counted : (v : Verdict) → x ≡ given v → v.reference ≡ k.residues
    counted v g = (tells-reference x h v g).0 ∙ sym (residues-is limits s k e protein known)

    stands-whole : reference_in x out ≡ reference_in x protein
    unfolding reference_in
    stands-whole = by x refl
      where
        by : (y : Result Verdict) → x ≡ y → reference_in y out ≡ reference_in y protein
        by (refused n) g = refl
        by (given v) g = rw (reads, counted v g) (sym (take-take k.residues k.residues out (omega arith)))

    pub holds : (t' q' : List ℕ) → t' ≡ over (decided_check prop r d new).transcript t → q' ≡ over (decided_check prop r d new).altered q
        → Holds (check_outcome limits r (asked edit new) prop (room_with t room q)) x t t' room out q q'
    holds t' q' ht hq =
        let all : check_outcome limits r (asked edit new) prop (room_with t room q) ≡ decided_check prop r d new = outcome-is prop r (asked edit new) (room_with t room q) ∙ ap (λ (d : Result Plan). decided_check prop r d new) (sym is) in
        subst (λ (o : CheckOutcome). Holds o x t t' room out q q') (sym all)
        (record {
          says = h;
          holds-transcript = ht;
          holds-altered = hq;
          stands = stands-whole ∙ reference-is x h;
          there = λ v g. omega (arith, counted v g, within);
          has_room = λ v g. let told = tells-reference x h v g in omega (arith, told.0, told.1);
        })

-- a refused edit
pub holds_refused : (s : List ℕ) (k : Known) (e : Exceptions) (edit : Edit) (new t : List ℕ) (room : ℕ) (out q : List ℕ) (prop : Proposal) (n : ℕ)
    → refused n ≡ changing_in (reference_of s k.cds e) (asked edit new) (room_with t room q)
    → Holds (check_outcome limits (reference_of s k.cds e) (asked edit new) prop (room_with t room q)) (refused n) t t room out q q
unfolding decided_check checks_nothing over reference_in
holds_refused s k e edit new t room out q prop n is =
    rw (outcome-is prop (reference_of s k.cds e) (asked edit new) (room_with t room q), ← is)
    (record {
      says = refl;
      holds-transcript = refl;
      holds-altered = refl;
      stands = refl;
      there = λ v w. let z : ◌≡◌ {A = ℕ} 0 1 = cc in absurd (omega arith);
      has_room = λ v w. let z : ◌≡◌ {A = ℕ} 0 1 = cc in absurd (omega arith);
    })

-- the answer for a CDS that is known as another
pub holds_cds : (s : List ℕ) (c d : Cds) (e : Exceptions) (a : Asked) (prop : Proposal) (lent : Room) (x : Result Verdict) (t t' : List ℕ) (room : ℕ) (out q q' : List ℕ) → c ≡ d
    → Holds (check_outcome limits (reference_of s c e) a prop lent) x t t' room out q q' → Holds (check_outcome limits (reference_of s d e) a prop lent) x t t' room out q q'
holds_cds s c d e a prop lent x t t' room out q q' is h = subst (λ (c : Cds). Holds (check_outcome limits (reference_of s c e) a prop lent) x t t' room out q q') is h

-- once R is copied
pub copied : (o : CheckOutcome) (x : Result Verdict) (t t' : List ℕ) (room : ℕ) (out p p' q q' : List ℕ) → Holds o x t t' room out q q' → p' ≡ over (reference_in x out) p → CheckAnswers o x t t' p p' q q'
copied o x t t' room out p p' q q' h hp =
    record {
      says = h.says;
      holds-transcript = h.holds-transcript;
      holds-reference = hp ∙ ap (λ (l : List ℕ). over l p) h.stands;
      holds-altered = h.holds-altered;
    }
