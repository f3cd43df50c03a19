-- Laws of a proposal held to a plan that is carried out.
-- Assumes nothing.
use mathlib.Core.Path.{◌≡◌, refl, ap, ◌∙◌}
use mathlib.Core.Bool.{Bool, true, false, not}
use mathlib.Core.List.{List}
use Prim.Native.Nat.{ℕ, ◌≤◌}
use lib.ListN.{length, take}
use borrow.Author.Tests.{not-true, not-false}
use Rattle.rules.specs.declared.Exceptions.{Exceptions}
use Rattle.rules.specs.declared.Report.{Report}
use Rattle.rules.specs.Bytes.{given, refused, over}
use Rattle.rules.specs.Reference.{Reference, reference_protein}
use Rattle.rules.specs.Check.{Proposal, replays, is_shortest, is_proposal, checks_nothing}
use Rattle.rules.specs.Views.{reference_of}
use Rattle.rules.proofs.Over.{fits_over, read_back}
use Rattle.reference.specs.declared.Known.{Known}
use Rattle.edits.specs.declared.plans.Plan.{Plan}
use Rattle.transcript.specs.Carrying.{carried_by}
use Rattle.altseq.specs.Carried.{protein_by, report_by, Carries}
use Rattle.checks.specs.Checking.{verdict_by, judged_outcome}

module _ (s : List ℕ) (k : Known) (e : Exceptions) (protein : List ℕ) (p : Plan) (new t q : List ℕ) (x : Carries s k e protein p new t q) (proposal : Proposal) where
  abbrev r : Reference
  r = reference_of s k.cds e

  -- 27
  module _ (b : Bool) (is : b ≡ is_proposal proposal (reference_protein r)) where
    pub no-proposal : not b ≡ true → (refused 27 ≡ (judged_outcome proposal r p new).answer) × (t ≡ over (judged_outcome proposal r p new).transcript t) × (q ≡ over (judged_outcome proposal r p new).altered q)
    unfolding judged_outcome checks_nothing over
    no-proposal h = rw (← is, not-true b h) (refl, refl, refl)

    -- the two answers
    module _ (h : not b ≡ false) (report : Report) (reported : report ≡ report_by r p new) (t' q' : List ℕ) (held : q' ≡ over (protein_by r p new) q) where
      altered-is : report.altered ≡ length (protein_by r p new)
      unfolding report_by
      altered-is = ap (λ (u : Report). u.altered) reported

      pub altered-fits : report.altered ≤ length q'
      altered-fits = fits_over (protein_by r p new) q q' report.altered altered-is held

      pub judged-answer : (one two : Bool) → one ≡ replays proposal protein (take report.altered q') → two ≡ is_shortest proposal protein (take report.altered q')
          → given (record { replays = one; shortest = two; transcript = report.transcript; reference = report.reference; altered = report.altered }) ≡ (judged_outcome proposal r p new).answer
      unfolding judged_outcome verdict_by report_by
      judged-answer one two f g =
          let back : take report.altered q' ≡ protein_by r p new = read_back (protein_by r p new) q q' report.altered altered-is held in
          let transcript : report.transcript ≡ length (carried_by p s new) = ap (λ (u : Report). u.transcript) reported in
          let reference : report.reference ≡ length (reference_protein r) = ap (λ (u : Report). u.reference) reported in
          rw (← is, not-false b h, f, g, back, x.known.read, transcript, reference, altered-is)

      pub judged-transcript : t' ≡ over (carried_by p s new) t → t' ≡ over (judged_outcome proposal r p new).transcript t
      unfolding judged_outcome
      judged-transcript w = w ∙ rw (← is, not-false b h)

      pub judged-altered : q' ≡ over (judged_outcome proposal r p new).altered q
      unfolding judged_outcome
      judged-altered = held ∙ rw (← is, not-false b h)
