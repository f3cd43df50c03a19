-- Laws of the whole answer to an edit of a checked reference, from what was decided with the room that there is.
-- Assumes nothing.
use Rattle.std.specs.Prelude.{Option, None, Some}
use mathlib.Core.Path.{◌≡◌, refl, sym, ap, subst, ◌∙◌}
use mathlib.Core.Bool.{◌||◌}
use mathlib.Core.List.{List}
use Prim.Native.Nat.{ℕ, ◌+◌, ◌-◌, ◌≤◌}
use native.Mathlib.Omega.{arith}
use lib.Dec.{ltb}
use lib.ListN.{length, take, length-take}
use lib.Seq.{take-length, take-take}
use borrow.Author.Tests.{ltb-false}
use Rattle.rules.specs.declared.Cds.{Cds}
use Rattle.rules.specs.declared.Edit.{Edit}
use Rattle.rules.specs.declared.Exceptions.{Exceptions}
use Rattle.rules.specs.declared.Report.{Report}
use Rattle.rules.specs.Bytes.{Result, given, refused, over}
use Rattle.rules.specs.Translation.{residue_count}
use Rattle.rules.specs.Reference.{Reference, cds_size, reference_protein}
use Rattle.rules.specs.Edit.{Asked}
use Rattle.rules.specs.Refusal.{limits, Room, room_tests}
use Rattle.rules.specs.Answer.{Outcome, writes_nothing, unknown_report, outcome, Answers}
use Rattle.rules.specs.Views.{bare, asked, reference_of}
use Rattle.rules.proofs.Tests.{or_left, or_right, first_clear}
use Rattle.rules.proofs.Reference.{protein_read}
use Rattle.reference.specs.declared.Known.{Known}
use Rattle.reference.specs.Known.{Knows}
use Rattle.edits.specs.declared.plans.Plan.{Plan}
use Rattle.edits.specs.Decisions.{decision_of}
use Rattle.altseq.specs.Carried.{report_by, Carries}
use Rattle.altseq.specs.Decided.{room_by, decided_in, decided_outcome, reference_in, Copies, AnswersBeside}
use Rattle.altseq.proofs.Answering.{none-refused, not-unknown, plan-is, decided-is, room_left}

-- what no refusal of 11 or 12 leaves
pub record Room_for (c : Cds) (n : ℕ) (room : Room) : Type 0 where
  pub transcript : n ≤ room.transcript
  pub reference : residue_count (c.ce + 1 - c.cs) ≤ room.reference
  pub altered : residue_count (n + 1 - c.cs) ≤ room.altered

pub room_for : (c : Cds) (n : ℕ) (room : Room) → room_by c n room ≡ 0 → Room_for c n room
unfolding room_tests
room_for c n room h =
    let eleven = first_clear (ltb room.transcript n) 10 _ h in
    let short = ltb room.reference (residue_count (c.ce + 1 - c.cs)) in
    let cut = ltb room.altered (residue_count (n + 1 - c.cs)) in
    let twelve = first_clear (short || cut) 11 _ eleven.1 in
    record {
      transcript = ltb-false room.transcript n eleven.0;
      reference = ltb-false room.reference (residue_count (c.ce + 1 - c.cs)) (or_left short cut twelve.0);
      altered = ltb-false room.altered (residue_count (n + 1 - c.cs)) (or_right short cut twelve.0);
    }

-- the three buffers, with so much room for R
abbrev pub room_with : List ℕ → ℕ → List ℕ → Room
room_with t room q = record { transcript = length t; reference = room; altered = length q }

module _ (s : List ℕ) (k : Known) (e : Exceptions) (protein : List ℕ) (known : Knows limits s k e protein) (edit : Edit) (new t : List ℕ) (room : ℕ) (q : List ℕ) (d : Result (Option Plan))
    (is : d ≡ decided_in k.several (bare s k.cds) (asked edit new) (room_with t room q)) where
  abbrev r : Reference
  r = reference_of s k.cds e

  pub left : (x : Plan) → d ≡ given (Some x) → (decision_of limits.most k.several (bare s k.cds) (asked edit new) ≡ given (Some x)) × (room_by k.cds x.length (room_with t room q) ≡ 0)
  unfolding decided_in
  left x h = room_left k.cds (room_with t room q) (decision_of limits.most k.several (bare s k.cds) (asked edit new)) x (sym is ∙ h)

  pub carries : (x : Plan) → d ≡ given (Some x) → Carries s k e protein x new t q
  carries x h =
      let goes = (left x h).0 in
      let fits = room_for k.cds x.length (room_with t room q) (left x h).1 in
      record {
        limits = limits;
        known = known;
        edit = edit;
        allowed = none-refused limits s k e protein known (asked edit new) x goes;
        is = plan-is limits s k e protein known (asked edit new) x goes;
        changes = not-unknown limits s k e protein known (asked edit new) x goes;
        for-transcript = fits.transcript;
        for-altered = fits.altered;
      }

  -- R of the answer
  pub protein-length : length (reference_protein r) ≡ residue_count (cds_size r)
  protein-length = (protein_read limits.longest r known.accepted).counted

  reference-is : (x : Result Report) → x ≡ (decided_outcome r d new).answer → reference_in x protein ≡ (decided_outcome r d new).reference
  unfolding reference_in decided_outcome writes_nothing unknown_report report_by
  reference-is x h = rw h (by d)
    where
      by : (d : Result (Option Plan)) → reference_in (decided_outcome r d new).answer protein ≡ (decided_outcome r d new).reference
      by (refused n) = refl
      by (given None) = refl
      by (given (Some x)) = rw known.read (take-length (reference_protein r))

  pub copies : (x : Result Report) → x ≡ (decided_outcome r d new).answer → Copies x protein room
  unfolding decided_outcome writes_nothing unknown_report report_by cds_size
  copies x h = by d refl
    where
      by : (f : Result (Option Plan)) → d ≡ f → Copies x protein room
      by (refused n) g = record { there = λ y w. absurd (let z : ◌≡◌ {A = ℕ} 0 1 = cc (rw g at h) in omega arith); has_room = λ y w. absurd (let z : ◌≡◌ {A = ℕ} 0 1 = cc (rw g at h) in omega arith) }
      by (given None) g =
          record {
            there = λ y w. let u : y ≡ unknown_report = cc (rw g at h) in omega (arith, ap (λ (y : Report). y.reference) u);
            has_room = λ y w. let u : y ≡ unknown_report = cc (rw g at h) in omega (arith, ap (λ (y : Report). y.reference) u);
          }
      by (given (Some f)) g =
          let fits = room_for k.cds f.length (room_with t room q) (left f g).1 in
          record {
            there = λ y w. let u : y ≡ report_by r f new = cc (rw g at h) in omega (arith, ap (λ (y : Report). y.reference) u, ap length known.read);
            has_room = λ y w. let u : y ≡ report_by r f new = cc (rw g at h) in omega (arith, ap (λ (y : Report). y.reference) u, protein-length, fits.reference);
          }

  pub answers-beside : (x : Result Report) (t' q' : List ℕ) → x ≡ (decided_outcome r d new).answer → t' ≡ over (decided_outcome r d new).transcript t
      → q' ≡ over (decided_outcome r d new).altered q → AnswersBeside (outcome limits r (asked edit new) (room_with t room q)) x protein room t t' q q'
  unfolding decided_in
  answers-beside x t' q' h ht hq =
      let all : outcome limits r (asked edit new) (room_with t room q) ≡ decided_outcome r d new = decided-is limits s k e protein known (asked edit new) (room_with t room q) ∙ ap (λ (d : Result (Option Plan)). decided_outcome r d new) (sym is) in
      subst (λ (o : Outcome). AnswersBeside o x protein room t t' q q') (sym all)
      (record {
        says = h;
        holds-transcript = ht;
        keeps-reference = reference-is x h;
        holds-altered = hq;
        copies = copies x h;
      })

-- R stands in the whole room that it was read into
module _ (o : Outcome) (x : Result Report) (k : ℕ) (out : List ℕ) (room : ℕ) (t t' q q' : List ℕ) (h : AnswersBeside o x (take k out) room t t' q q') where
  reads : (p : Report) → x ≡ given p → (p.reference ≤ k) × (p.reference ≤ length out)
  reads p w =
      let there = h.copies.there p w in
      let long = length-take k out in
      (omega arith, omega arith)

  stands : reference_in x out ≡ reference_in x (take k out)
  unfolding reference_in
  stands = by x refl
    where
      by : (y : Result Report) → x ≡ y → reference_in y out ≡ reference_in y (take k out)
      by (refused n) w = refl
      by (given p) w = sym (take-take p.reference k out (reads p w).0)

  pub beside-whole : AnswersBeside o x out room t t' q q'
  beside-whole =
      record {
        says = h.says;
        holds-transcript = h.holds-transcript;
        keeps-reference = stands ∙ h.keeps-reference;
        holds-altered = h.holds-altered;
        copies = record { there = λ p w. (reads p w).1; has_room = h.copies.has_room };
      }

-- once R is copied
pub beside_copied : (o : Outcome) (x : Result Report) (protein : List ℕ) (room : ℕ) (t t' p p' q q' : List ℕ) → AnswersBeside o x protein room t t' q q'
    → p' ≡ over (reference_in x protein) p → Answers o x t t' p p' q q'
beside_copied o x protein room t t' p p' q q' h hp =
    record {
      says = h.says;
      holds-transcript = h.holds-transcript;
      holds-reference = hp ∙ ap (λ (l : List ℕ). over l p) h.keeps-reference;
      holds-altered = h.holds-altered;
    }

-- the answer for a CDS that is known as another
pub beside_cds : (s : List ℕ) (c d : Cds) (e : Exceptions) (a : Asked) (lent : Room) (x : Result Report) (protein : List ℕ) (room : ℕ) (t t' q q' : List ℕ) → c ≡ d
    → AnswersBeside (outcome limits (reference_of s c e) a lent) x protein room t t' q q' → AnswersBeside (outcome limits (reference_of s d e) a lent) x protein room t t' q q'
beside_cds s c d e a lent x protein room t t' q q' is h = subst (λ (c : Cds). AnswersBeside (outcome limits (reference_of s c e) a lent) x protein room t t' q q') is h
