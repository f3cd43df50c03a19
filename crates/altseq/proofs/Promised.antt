-- What the promise of `build_altseq` and `build_altseq_in` tells whoever reads the buffers: demand 3, and that there is a single answer. Both
-- hold of any answer and any buffers that meet it.
-- Assumes nothing.
use mathlib.Core.Path.{◌≡◌, refl, sym, ap, ◌∙◌}
use mathlib.Core.Bool.{Bool, true, false}
use mathlib.Core.List.{List}
use Prim.Native.Nat.{ℕ, zero, suc}
use native.Mathlib.Omega.{arith}
use lib.ListN.{take}
use Rattle.rules.specs.declared.Change.{Change}
use Rattle.rules.specs.declared.Record.TheVariants.{Changed}
use Rattle.rules.specs.declared.Edit.{Edit}
use Rattle.rules.specs.declared.Exceptions.{Exceptions}
use Rattle.rules.specs.declared.Limits.{Limits}
use Rattle.rules.specs.declared.Report.{Report}
use Rattle.rules.specs.Bytes.{Result, given, over}
use Rattle.rules.specs.Reference.{Reference, reference_protein}
use Rattle.rules.specs.Edit.{Asked}
use Rattle.rules.specs.Altered.{frameshift}
use Rattle.rules.specs.Protein.{altered_protein}
use Rattle.rules.specs.Record.{is_unknown}
use Rattle.rules.specs.Refusal.{refusal, Room, room_refusal}
use Rattle.rules.specs.Answer.{Outcome, writes_nothing, unknown_report, full_report, writes_all, outcome_by, outcome, Answers}
use Rattle.rules.proofs.Over.{read_back}
use Rattle.rules.proofs.Demand.{Demand, demand}
use Rattle.rules.proofs.Answers.{Alike, single}
use Rattle.rules.specs.declared.Cds.{Cds}
use Rattle.rules.specs.Views.{asked, reference_of, room_of}

-- R and A stand at the start of their buffers, as long as reported, and the change tells of these bytes what demand 3 says
abbrev pub Replays : Report → Change → List ℕ → List ℕ → Type 0
Replays p c reference altered = Demand p.frameshift (take p.reference reference) (take p.altered altered) c

-- a change is reported by an answer that writes all
by_change : (a k : ℕ) (u : Bool) (o : Outcome) (p q : Report) (c : Change) → o.answer ≡ given q → (outcome_by a u k o).answer ≡ given p → p.found ≡ Changed c
    → (outcome_by a u k o ≡ o) × (p ≡ q)
unfolding outcome_by writes_nothing unknown_report
by_change (suc a) k u o p q c f h x = let z : ◌≡◌ {A = ℕ} 0 1 = cc in absurd (omega arith)
by_change zero k true o p q c f h x = let z : ◌≡◌ {A = ℕ} 0 1 = cc in absurd (omega arith)
by_change zero (suc k) false o p q c f h x = let z : ◌≡◌ {A = ℕ} 0 1 = cc in absurd (omega arith)
by_change zero zero false o p q c f h x = (refl, cc)

module _ (m : Limits) (r : Reference) (e : Asked) (room : Room) (p : Report) (c : Change) (t t' q q' s s' : List ℕ) where
  pub demanded : Answers (outcome m r e room) (given p) t t' q q' s s' → p.found ≡ Changed c → Replays p c q' s'
  unfolding outcome writes_all full_report
  demanded x h =
      let both = by_change (refusal m r e) (room_refusal r e room) (is_unknown r e) (writes_all r e) p (full_report r e) c refl (sym x.says) h in
      let in_r : take p.reference q' ≡ reference_protein r =
      read_back (reference_protein r) q q' p.reference (ap (λ (p : Report). p.reference) both.1) (x.holds-reference ∙ ap (λ (o : Outcome). over o.reference q) both.0) in
      let in_a : take p.altered s' ≡ altered_protein r e =
      read_back (altered_protein r e) s s' p.altered (ap (λ (p : Report). p.altered) both.1) (x.holds-altered ∙ ap (λ (o : Outcome). over o.altered s) both.0) in
      let flag : p.frameshift ≡ frameshift r e = ap (λ (p : Report). p.frameshift) both.1 in
      rw (in_r, in_a, flag) (demand r e c (sym (ap (λ (p : Report). p.found) both.1) ∙ h))

-- two answers to one call, with the same buffers lent, are the same, and so is every byte that they leave
pub single_answer : (m : Limits) (letters : List ℕ) (c : Cds) (x : Exceptions) (edit : Edit) (new : List ℕ) (a₁ a₂ : Result Report) (t t₁ t₂ p p₁ p₂ q q₁ q₂ : List ℕ)
    → Answers (outcome m (reference_of letters c x) (asked edit new) (room_of t p q)) a₁ t t₁ p p₁ q q₁
    → Answers (outcome m (reference_of letters c x) (asked edit new) (room_of t p q)) a₂ t t₂ p p₂ q q₂ → Alike a₁ a₂ t₁ t₂ p₁ p₂ q₁ q₂
single_answer m letters c x edit new a₁ a₂ t t₁ t₂ p p₁ p₂ q q₁ q₂ h k =
    single (outcome m (reference_of letters c x) (asked edit new) (room_of t p q)) a₁ a₂ t t₁ t₂ p p₁ p₂ q q₁ q₂ h k
