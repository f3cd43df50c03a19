-- What an answer tells of the buffers: a refusal and Unknown change none, what is written fits, and there is a single answer.
-- Assumes nothing.
use mathlib.Core.Path.{◌≡◌, refl, sym, ap, subst, ◌∙◌}
use mathlib.Core.Bool.{Bool, true, false}
use mathlib.Core.List.{List}
use Prim.Native.Nat.{ℕ, zero, suc, ◌+◌, ◌-◌, ◌≤◌}
use native.Mathlib.Omega.{arith}
use borrow.Author.Tests.{le-ltb}
use Rattle.rules.specs.declared.Record.TheVariants.{Unknown}
use Rattle.rules.specs.declared.Report.{Report}
use Rattle.rules.specs.Bytes.{first_number, Result, given, refused, over}
use Rattle.rules.specs.Translation.{residue_count}
use Rattle.rules.specs.Reference.{Reference, size, cds_size}
use Rattle.rules.specs.Edit.{Asked}
use Rattle.rules.specs.Altered.{altered_length}
use Rattle.rules.specs.Record.{is_unknown}
use Rattle.rules.specs.declared.Limits.{Limits}
use Rattle.rules.specs.Refusal.{refusal, Room, room_tests, room_refusal}
use Rattle.rules.specs.Answer.{Outcome, writes_nothing, unknown_report, full_report, writes_all, outcome_by, outcome, Answers}
use Rattle.rules.proofs.Refusing.{reference-accepted}
use Rattle.rules.proofs.Altered.{longest_altered, altered-fits}
use Rattle.rules.proofs.Records.{unknown-of}

-- which outcome it is, by the tests in their order
module _ (m : Limits) (r : Reference) (e : Asked) (room : Room) where
  pub refused-by : (n : ℕ) → refusal m r e ≡ suc n → outcome m r e room ≡ writes_nothing (refused (suc n))
  unfolding outcome outcome_by
  refused-by n h = rw h

  pub unknown-by : refusal m r e ≡ 0 → is_unknown r e ≡ true → outcome m r e room ≡ writes_nothing (given unknown_report)
  unfolding outcome outcome_by
  unknown-by h u = rw (h, u)

  pub room_by : (n : ℕ) → refusal m r e ≡ 0 → is_unknown r e ≡ false → room_refusal r e room ≡ suc n → outcome m r e room ≡ writes_nothing (refused (suc n))
  unfolding outcome outcome_by
  room_by n h u k = rw (h, u, k)

  pub all-by : refusal m r e ≡ 0 → is_unknown r e ≡ false → room_refusal r e room ≡ 0 → outcome m r e room ≡ writes_all r e
  unfolding outcome outcome_by
  all-by h u k = rw (h, u, k)

-- a refusal's number isn't 0, and it writes nothing
record IsRefusal (o : Outcome) (n : ℕ) : Type 0 where
  pub number : 1 ≤ n
  pub nothing : o ≡ writes_nothing (refused n)

by-refused : (a k n : ℕ) (u : Bool) (o : Outcome) (p : Report) → o.answer ≡ given p → (outcome_by a u k o).answer ≡ refused n → IsRefusal (outcome_by a u k o) n
unfolding outcome_by writes_nothing
by-refused (suc a) k n u o p q h = let is : suc a ≡ n = cc in record { number = omega arith; nothing = ap (λ (n : ℕ). writes_nothing (refused n)) is }
by-refused zero k n true o p q h = let z : ◌≡◌ {A = ℕ} 0 1 = cc in absurd (omega arith)
by-refused zero (suc k) n false o p q h = let is : suc k ≡ n = cc in record { number = omega arith; nothing = ap (λ (n : ℕ). writes_nothing (refused n)) is }
by-refused zero zero n false o p q h = let z : ◌≡◌ {A = ℕ} 0 1 = cc in absurd (omega arith)

refused_writes : (m : Limits) (r : Reference) (e : Asked) (room : Room) (n : ℕ) → (outcome m r e room).answer ≡ refused n → IsRefusal (outcome m r e room) n
unfolding outcome writes_all
refused_writes m r e room n h = by-refused (refusal m r e) (room_refusal r e room) n (is_unknown r e) (writes_all r e) (full_report r e) refl h

-- Unknown: zero lengths, no flag, and nothing written
record IsUnknown (o : Outcome) (p : Report) : Type 0 where
  pub report : p ≡ unknown_report
  pub nothing : o ≡ writes_nothing (given unknown_report)

by-unknown : (a k : ℕ) (u : Bool) (o : Outcome) (p q : Report) → o.answer ≡ given q → (q.found ≡ Unknown → u ≡ true) → (outcome_by a u k o).answer ≡ given p → p.found ≡ Unknown → IsUnknown (outcome_by a u k o) p
unfolding outcome_by writes_nothing
by-unknown (suc a) k u o p q f known h x = let z : ◌≡◌ {A = ℕ} 0 1 = cc in absurd (omega arith)
by-unknown zero k true o p q f known h x = record { report = cc; nothing = refl }
by-unknown zero (suc k) false o p q f known h x = let z : ◌≡◌ {A = ℕ} 0 1 = cc in absurd (omega arith)
by-unknown zero zero false o p q f known h x = let same : q ≡ p = cc in let z : ◌≡◌ {A = ℕ} 0 1 = cc (known (ap (λ (p : Report). p.found) same ∙ x)) in absurd (omega arith)

unknown_writes : (m : Limits) (r : Reference) (e : Asked) (room : Room) (p : Report) → (outcome m r e room).answer ≡ given p → p.found ≡ Unknown → IsUnknown (outcome m r e room) p
unfolding outcome writes_all full_report
unknown_writes m r e room p h x = by-unknown (refusal m r e) (room_refusal r e room) (is_unknown r e) (writes_all r e) p (full_report r e) refl (unknown-of r e) h x

-- no byte of any buffer changes
pub record Unchanged (transcript transcript' reference reference' altered altered' : List ℕ) : Type 0 where
  pub transcript-stays : transcript' ≡ transcript
  pub reference-stays : reference' ≡ reference
  pub altered-stays : altered' ≡ altered

module _ (a b : Result Report) (t t' p p' q q' : List ℕ) where
  nothing-changes : Answers (writes_nothing a) b t t' p p' q q' → Unchanged t t' p p' q q'
  unfolding writes_nothing over
  nothing-changes x = record { transcript-stays = x.holds-transcript; reference-stays = x.holds-reference; altered-stays = x.holds-altered }

module _ (m : Limits) (r : Reference) (e : Asked) (room : Room) (t t' p p' q q' : List ℕ) where
  pub refusal-stays : (n : ℕ) → Answers (outcome m r e room) (refused n) t t' p p' q q' → Unchanged t t' p p' q q'
  refusal-stays n x =
      nothing-changes (refused n) (refused n) t t' p p' q q'
      (subst (λ (o : Outcome). Answers o (refused n) t t' p p' q q') (refused_writes m r e room n (sym x.says)).nothing x)

  pub unknown-stays : (s : Report) → s.found ≡ Unknown → Answers (outcome m r e room) (given s) t t' p p' q q' → Unchanged t t' p p' q q'
  unknown-stays s k x =
      nothing-changes (given unknown_report) (given s) t t' p p' q q'
      (subst (λ (o : Outcome). Answers o (given s) t t' p p' q q') (unknown_writes m r e room s (sym x.says) k).nothing x)

-- a single answer: what meets an outcome's promise is the same, whoever gives it
pub record Alike (a₁ a₂ : Result Report) (transcript₁ transcript₂ reference₁ reference₂ altered₁ altered₂ : List ℕ) : Type 0 where
  pub answer : a₁ ≡ a₂
  pub transcript : transcript₁ ≡ transcript₂
  pub reference : reference₁ ≡ reference₂
  pub altered : altered₁ ≡ altered₂

pub single : (o : Outcome) (a₁ a₂ : Result Report) (t t₁ t₂ p p₁ p₂ q q₁ q₂ : List ℕ) → Answers o a₁ t t₁ p p₁ q q₁ → Answers o a₂ t t₂ p p₂ q q₂ → Alike a₁ a₂ t₁ t₂ p₁ p₂ q₁ q₂
single o a₁ a₂ t t₁ t₂ p p₁ p₂ q q₁ q₂ x y =
    record {
      answer = x.says ∙ sym y.says;
      transcript = x.holds-transcript ∙ sym y.holds-transcript;
      reference = x.holds-reference ∙ sym y.holds-reference;
      altered = x.holds-altered ∙ sym y.holds-altered;
    }

-- buffers for the longest altered transcript, and for its residues, are never too short
pub enough : (m : Limits) (r : Reference) (e : Asked) (room : Room) → refusal m r e ≡ 0 → longest_altered m ≤ room.transcript
    → residue_count (longest_altered m) ≤ room.reference → residue_count (longest_altered m) ≤ room.altered → room_refusal r e room ≡ 0
unfolding room_refusal room_tests first_number residue_count cds_size size
enough m r e room h t p a =
    let x = reference-accepted m r e h in
    let most = altered-fits m r e h in
    rw (
      le-ltb room.transcript (altered_length r e) (omega arith),
      le-ltb room.reference (residue_count (cds_size r)) (omega (arith, x.fits, x.bounds.first, x.bounds.inside)),
      le-ltb room.altered (residue_count (altered_length r e + 1 - r.cs)) (omega (arith, x.bounds.first)),
    )
