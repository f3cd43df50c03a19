-- Laws of what is decided of two edits, as the pair's outcome, and of a reference that the check accepts.
-- Assumes nothing.
use mathlib.Core.Path.{◌≡◌, refl, sym, ap, subst, ◌∙◌}
use mathlib.Core.List.{List, ◌++◌}
use Prim.Native.Nat.{ℕ, zero, suc}
use native.Mathlib.Omega.{arith}
use Rattle.rules.specs.declared.Form.{Form}
use Rattle.rules.specs.declared.Cds.{Cds}
use Rattle.rules.specs.declared.Edit.{Edit}
use Rattle.rules.specs.declared.Exceptions.{Exceptions}
use Rattle.rules.specs.declared.PairReport.{PairReport}
use Rattle.rules.specs.Bytes.{Result, given, refused, all, first_number}
use Rattle.rules.specs.Reference.{Reference, reference_protein}
use Rattle.rules.specs.Edit.{Asked, edit_tests}
use Rattle.rules.specs.Refusal.{limits, reference_refusal}
use Rattle.rules.specs.Pair.{pair_tests, PairRoom, PairLimits, pair_limits, pair_outcome, Pairs}
use Rattle.rules.specs.Views.{asked, reference_of}
use Rattle.rules.proofs.Tests.{first_behind, first_before}
use Rattle.rules.proofs.PairAnswers.{pair_nothing, pairs_nothing, reference-refused, first-refused, second-refused, pair-refused}
use Rattle.reference.specs.declared.Known.{Known}
use Rattle.reference.specs.Known.{known_of, checked_of, Knows}
use Rattle.reference.proofs.Judging.{was-refused, was-given}
use Rattle.reference.proofs.Checking.{checked_refused, checked-accepted, form-known, cds-known, checks}
use Rattle.edits.specs.Plans.{plan_of}
use Rattle.joints.specs.declared.Joint.{Joint}
use Rattle.joints.specs.Joints.{joint_of}
use Rattle.pairs.specs.Carrying.{pair_room_of, carried_outcome, Goes, AcceptsPair}
use Rattle.pairs.proofs.Whole.{outcome-is}

module _ (m : PairLimits) (r : Reference) (a b : Asked) where
  all_of : ℕ
  all_of = first_number (edit_tests m.first r a ++ (edit_tests m.second r b ++ pair_tests r a b))

  past_first : first_number (edit_tests m.first r a) ≡ 0 → all_of ≡ first_number (edit_tests m.second r b ++ pair_tests r a b)
  unfolding all_of edit_tests all
  past_first h = first_behind (edit_tests m.first r a) (edit_tests m.second r b ++ pair_tests r a b) refl h

  past-second : first_number (edit_tests m.first r a) ≡ 0 → first_number (edit_tests m.second r b) ≡ 0 → all_of ≡ first_number (pair_tests r a b)
  unfolding edit_tests all
  past-second h k = past_first h ∙ first_behind (edit_tests m.second r b) (pair_tests r a b) refl k

  first-all : (n : ℕ) → first_number (edit_tests m.first r a) ≡ suc n → all_of ≡ suc n
  unfolding all_of
  first-all n h = first_before (edit_tests m.first r a) (edit_tests m.second r b ++ pair_tests r a b) n h

  second-all : (n : ℕ) → first_number (edit_tests m.first r a) ≡ 0 → first_number (edit_tests m.second r b) ≡ suc n → all_of ≡ suc n
  second-all n h k = past_first h ∙ first_before (edit_tests m.second r b) (pair_tests r a b) n k

  module _ (room : PairRoom) (good : reference_refusal m.longest r ≡ 0) where
    refused_all : (n : ℕ) → all_of ≡ n → (n ≡ 0 → ⊥) → pair_outcome m r a b room ≡ pair_nothing n
    refused_all n h some = by (first_number (edit_tests m.first r a)) (first_number (edit_tests m.second r b)) refl refl
      where
        by : (i j : ℕ) → first_number (edit_tests m.first r a) ≡ i → first_number (edit_tests m.second r b) ≡ j → pair_outcome m r a b room ≡ pair_nothing n
        by (suc i) j p q = first-refused m r a b room good n (p ∙ sym (first-all i p) ∙ h) some
        by zero (suc j) p q = second-refused m r a b room good p n (q ∙ sym (second-all j p q) ∙ h) some
        by zero zero p q = pair-refused m r a b room good p q n (sym (past-second p q) ∙ h) some

    pub joint-nothing : (n : ℕ) → refused n ≡ joint_of m.first m.second r a b → pair_outcome m r a b room ≡ pair_nothing n
    unfolding joint_of all_of
    joint-nothing n h = let both = was-refused all_of n (record { first = plan_of r a; second = plan_of r b }) h in refused_all n both.0 both.1

  none-all : all_of ≡ 0 → (first_number (edit_tests m.first r a) ≡ 0) × (first_number (edit_tests m.second r b) ≡ 0) × (first_number (pair_tests r a b) ≡ 0)
  none-all h = by (first_number (edit_tests m.first r a)) (first_number (edit_tests m.second r b)) refl refl
    where
      by : (i j : ℕ) → first_number (edit_tests m.first r a) ≡ i → first_number (edit_tests m.second r b) ≡ j
          → (first_number (edit_tests m.first r a) ≡ 0) × (first_number (edit_tests m.second r b) ≡ 0) × (first_number (pair_tests r a b) ≡ 0)
      by (suc i) j p q = absurd (omega (arith, first-all i p))
      by zero (suc j) p q = absurd (omega (arith, second-all j p q))
      by zero zero p q = (p, q, sym (past-second p q) ∙ h)

  pub joint-plans : (j : Joint) → given j ≡ joint_of m.first m.second r a b
      → ((first_number (edit_tests m.first r a) ≡ 0) × (first_number (edit_tests m.second r b) ≡ 0) × (first_number (pair_tests r a b) ≡ 0)) × ((j.first ≡ plan_of r a) × (j.second ≡ plan_of r b))
  unfolding joint_of all_of
  joint-plans j h =
      let all = was-given all_of (record { first = plan_of r a; second = plan_of r b }) j h in
      (none-all all.0, (ap (λ (j : Joint). j.first) all.1, ap (λ (j : Joint). j.second) all.1))

-- two edits of a checked reference
module _ (s : List ℕ) (k : Known) (first second : Edit) (most other : ℕ) (new bases : List ℕ) (x : AcceptsPair s k most other) (longest : ℕ) (e : Exceptions)
    (is : k ≡ known_of k.form s k.cds e) (good : reference_refusal longest (reference_of s k.cds e) ≡ 0) where
  abbrev m : PairLimits
  m = record { longest = longest; first = most; second = other }

  pub refused-pair : (n : ℕ) (t alt : List ℕ) → refused n ≡ joint_of most other (reference_of s k.cds e) (asked first new) (asked second bases)
      → Pairs (pair_outcome m (reference_of s k.cds e) (asked first new) (asked second bases) (pair_room_of t alt)) (refused n) t t alt alt
  refused-pair n t alt h =
      pairs_nothing _ n t alt (joint-nothing m (reference_of s k.cds e) (asked first new) (asked second bases) (pair_room_of t alt) good n h)

  module _ (j : Joint) (h : given j ≡ joint_of most other (reference_of s k.cds e) (asked first new) (asked second bases)) where
    pub goes-pair : Goes s k j.first j.second new bases
    goes-pair =
        let all = joint-plans m (reference_of s k.cds e) (asked first new) (asked second bases) j h in
        record {
          limits = m;
          exceptions = e;
          accepted = good;
          is = is;
          sound = x.known.checks.sound;
          small = x.small;
          first = first;
          second = second;
          first-allowed = all.0.0;
          second-allowed = all.0.1;
          joined = all.0.2;
          first-plan = all.1.0;
          second-plan = all.1.1;
        }

    pub carried-pair : (r : Result PairReport) (t t' alt alt' : List ℕ)
        → Pairs (carried_outcome k.cds j.first j.second s new bases (pair_room_of t alt)) r t t' alt alt'
        → Pairs (pair_outcome m (reference_of s k.cds e) (asked first new) (asked second bases) (pair_room_of t alt)) r t t' alt alt'
    unfolding goes-pair
    carried-pair r t t' alt alt' y = rw (← outcome-is s k j.first j.second new bases goes-pair (pair_room_of t alt)) y

-- a reference, as it was checked
module _ (f : Form) (s : List ℕ) (c : Cds) (e : Exceptions) where
  pub refused-reference : (a b : Asked) (n : ℕ) (t alt : List ℕ) → refused n ≡ checked_of limits.longest f s c e → Pairs (pair_outcome pair_limits (reference_of s c e) a b (pair_room_of t alt)) (refused n) t t alt alt
  refused-reference a b n t alt h =
      let no = checked_refused limits.longest f s c e n h in
      pairs_nothing _ n t alt (reference-refused pair_limits (reference_of s c e) a b (pair_room_of t alt) n no.0 no.1)

  module _ (k : Known) (h : given k ≡ checked_of limits.longest f s c e) where
    pub form-at : k.form ≡ f
    form-at = let ok = checked-accepted limits.longest f s c e k h in form-known limits f s c e k ok.0 ok.1

    pub cds-at : k.cds ≡ c
    cds-at = let ok = checked-accepted limits.longest f s c e k h in cds-known limits f s c e k ok.0 ok.1

    known_at : Knows limits s k e (reference_protein (reference_of s k.cds e))
    known_at =
        let ok = checked-accepted limits.longest f s c e k h in
        record {
          accepted = rw cds-at ok.0;
          is = ok.1 ∙ ap (λ (c : Cds). known_of f s c e) (sym cds-at) ∙ ap (λ (f : Form). known_of f s k.cds e) (sym form-at);
          read = refl;
          small = omega arith;
        }

    pub is_known : k ≡ known_of k.form s k.cds e
    is_known = known_at.is

    pub good : reference_refusal limits.longest (reference_of s k.cds e) ≡ 0
    good = known_at.accepted

    pub accepts : AcceptsPair s k limits.most limits.most
    accepts =
        record {
          known = record { exceptions = e; is = is_known; checks = checks limits s k e (reference_protein (reference_of s k.cds e)) known_at };
          longest = limits.longest;
          accepted = good;
          small = (omega arith, omega arith);
        }

-- the answer for a CDS that is known as another
pub pairs-cds : (s : List ℕ) (c d : Cds) (e : Exceptions) (a b : Asked) (room : PairRoom) (r : Result PairReport) (t t' alt alt' : List ℕ) → c ≡ d
    → Pairs (pair_outcome pair_limits (reference_of s c e) a b room) r t t' alt alt' → Pairs (pair_outcome pair_limits (reference_of s d e) a b room) r t t' alt alt'
pairs-cds s c d e a b room r t t' alt alt' is y = subst (λ (c : Cds). Pairs (pair_outcome pair_limits (reference_of s c e) a b room) r t t' alt alt') is y
