-- Laws of what is decided of two edits, by the tests in their order.
-- Assumes nothing.
use mathlib.Core.Path.{◌≡◌, refl, sym, ap, ◌∙◌}
use mathlib.Core.Bool.{Bool, true, false, ◌||◌, not}
use mathlib.Core.List.{List, ◌++◌, append_assoc}
use Prim.Native.Nat.{ℕ, zero, suc}
use native.Mathlib.Omega.{arith}
use lib.ListN.{length, take, drop, take-append-drop}
use Rattle.rules.specs.declared.Cds.{Cds}
use Rattle.rules.specs.declared.Edit.{Edit}
use Rattle.rules.specs.declared.Exceptions.{Exceptions}
use Rattle.rules.specs.declared.Refusal.{Refusal}
use Rattle.rules.specs.Bytes.{all, given, refused, unless, Test, first_number}
use Rattle.rules.specs.Reference.{Reference, size}
use Rattle.rules.specs.Edit.{Asked, start_place, end_place, start_index, end_index, ends_past, is_misplaced, is_disordered, edit_tests}
use Rattle.rules.specs.Altered.{finds_stop}
use Rattle.rules.specs.Record.{is_unknown}
use Rattle.rules.specs.Pair.{touched_from, touched_to, is_ahead, are_apart, pair_tests}
use Rattle.rules.specs.Refusals.{refusal_number}
use Rattle.rules.specs.Views.{bare, asked, reference_of}
use Rattle.rules.proofs.Tests.{first_behind, first_before}
use Rattle.reference.specs.declared.Known.{Known}
use Rattle.reference.specs.Bounds.{Sound}
use Rattle.reference.specs.Known.{known_of}
use Rattle.reference.proofs.Checking.{bounded}
use Rattle.reference.proofs.Judging.{number_some, told-refused}
use Rattle.positions.proofs.Tests.{edit-allowed, edit-indexes}
use Rattle.edits.specs.declared.plans.Plan.{Plan}
use Rattle.edits.specs.Plans.{plan_of}
use Rattle.edits.proofs.Planning.{bare_plan}
use Rattle.joints.specs.declared.Joint.{Joint}
use Rattle.apart.specs.Apart.{Touching}
use Rattle.joints.specs.Joints.{early_pair, joint_of}

-- the tests look at no exception
module _ (s : List ℕ) (c : Cds) (e : Exceptions) where
  pub tests-bare : (most : ℕ) (a : Asked) → first_number (edit_tests most (bare s c) a) ≡ first_number (edit_tests most (reference_of s c e) a)
  unfolding edit_tests is_misplaced is_disordered start_place end_place ends_past size
  tests-bare most a = refl

  apart_bare : (a b : Asked) → are_apart (bare s c) a b ≡ are_apart (reference_of s c e) a b
  unfolding are_apart is_ahead touched_from touched_to start_index end_index size
  apart_bare a b = refl

  past-bare : (a : Asked) → ends_past (bare s c) a ≡ ends_past (reference_of s c e) a
  unfolding ends_past end_place size
  past-bare a = refl

  pub plan-bare : (a : Asked) → plan_of (bare s c) a ≡ plan_of (reference_of s c e) a
  plan-bare a = sym (bare_plan (reference_of s c e) a)

before : (ts us : List Test) (n : ℕ) → first_number ts ≡ n → (n ≡ 0 → ⊥) → first_number (ts ++ us) ≡ n
before ts us zero h some = absurd (some refl)
before ts us (suc n) h some = first_before ts us n h

-- by the tests of a reference
module _ (most other : ℕ) (r : Reference) (a b : Asked) where
  pub early-first : (x : Refusal) → refusal_number x ≡ first_number (edit_tests most r a) → refusal_number x ≡ early_pair most other r a b
  unfolding early_pair
  early-first x h = sym (before (edit_tests most r a) (edit_tests other r b ++ take 2 (pair_tests r a b)) (refusal_number x) (sym h) (number_some x))

  -- the tests behind those of the two edits
  module _ (first : first_number (edit_tests most r a) ≡ 0) (us : List Test) where
    past_first : first_number (edit_tests most r a ++ (edit_tests other r b ++ us)) ≡ first_number (edit_tests other r b ++ us)
    unfolding edit_tests all
    past_first = first_behind (edit_tests most r a) (edit_tests other r b ++ us) refl first

    past-second : first_number (edit_tests other r b) ≡ 0 → first_number (edit_tests most r a ++ (edit_tests other r b ++ us)) ≡ first_number us
    unfolding edit_tests all
    past-second second = past_first ∙ first_behind (edit_tests other r b) us refl second

  module _ (first : first_number (edit_tests most r a) ≡ 0) where
    pub early-second : (x : Refusal) → refusal_number x ≡ first_number (edit_tests other r b) → refusal_number x ≡ early_pair most other r a b
    unfolding early_pair
    early-second x h =
        sym (past_first first (take 2 (pair_tests r a b)) ∙ before (edit_tests other r b) (take 2 (pair_tests r a b)) (refusal_number x) (sym h) (number_some x))

    pub early-pair : first_number (edit_tests other r b) ≡ 0 → (n : ℕ) → first_number (take 2 (pair_tests r a b)) ≡ n → n ≡ early_pair most other r a b
    unfolding early_pair
    early-pair second n h = sym (past-second first (take 2 (pair_tests r a b)) second ∙ h)

  -- none of them applies
  pub none-early : early_pair most other r a b ≡ 0 → (first_number (edit_tests most r a) ≡ 0) × (first_number (edit_tests other r b) ≡ 0) × (first_number (take 2 (pair_tests r a b)) ≡ 0)
  unfolding early_pair
  none-early h = by (first_number (edit_tests most r a)) (first_number (edit_tests other r b)) refl refl
    where
      by : (n k : ℕ) → first_number (edit_tests most r a) ≡ n → first_number (edit_tests other r b) ≡ k → (first_number (edit_tests most r a) ≡ 0) × (first_number (edit_tests other r b) ≡ 0) × (first_number (take 2 (pair_tests r a b)) ≡ 0)
      by (suc n) k p q = absurd (omega (arith, first_before (edit_tests most r a) (edit_tests other r b ++ take 2 (pair_tests r a b)) n p))
      by zero (suc k) p q = absurd (omega (arith, past_first p (take 2 (pair_tests r a b)), first_before (edit_tests other r b) (take 2 (pair_tests r a b)) k q))
      by zero zero p q = (p, q, sym (past-second p (take 2 (pair_tests r a b)) q) ∙ h)

  -- what is decided
  early-all : (n : ℕ) → early_pair most other r a b ≡ n → (n ≡ 0 → ⊥) → first_number (edit_tests most r a ++ (edit_tests other r b ++ pair_tests r a b)) ≡ n
  unfolding early_pair
  early-all n h some =
      let early = edit_tests most r a ++ (edit_tests other r b ++ take 2 (pair_tests r a b)) in
      let split : edit_tests most r a ++ (edit_tests other r b ++ pair_tests r a b) ≡ early ++ drop 2 (pair_tests r a b) =
      ap (λ (l : List Test). edit_tests most r a ++ (edit_tests other r b ++ l)) (sym (take-append-drop 2 (pair_tests r a b))) ∙ simp append_assoc in
      ap first_number split ∙ before early (drop 2 (pair_tests r a b)) n h some

  pub joint-early : (x : Refusal) → refusal_number x ≡ early_pair most other r a b → refused (refusal_number x) ≡ joint_of most other r a b
  unfolding joint_of
  joint-early x h =
      let both : Joint = record { first = plan_of r a; second = plan_of r b } in
      told-refused x (first_number (edit_tests most r a ++ (edit_tests other r b ++ pair_tests r a b))) both (sym (early-all (refusal_number x) (sym h) (number_some x)))

  module _ (none : early_pair most other r a b ≡ 0) (p q : Plan) (first : p ≡ plan_of r a) (second : q ≡ plan_of r b) where
    behind : first_number (edit_tests most r a ++ (edit_tests other r b ++ pair_tests r a b)) ≡ first_number (drop 2 (pair_tests r a b))
    unfolding pair_tests all
    behind =
        let n = none-early none in
        past-second n.0 (pair_tests r a b) n.1 ∙ first_behind (take 2 (pair_tests r a b)) (drop 2 (pair_tests r a b)) refl n.2

    stopped : (finds_stop r a || finds_stop r b) ≡ (p.stopped || q.stopped)
    unfolding plan_of
    stopped = let x = ap (λ (p : Plan). p.stopped) first in let y = ap (λ (p : Plan). p.stopped) second in rw (x, y)

    pub joint-stopped : (p.stopped || q.stopped) ≡ true → refused 53 ≡ joint_of most other r a b
    unfolding joint_of unless pair_tests first_number
    joint-stopped h = let third : first_number (drop 2 (pair_tests r a b)) ≡ 53 = rw (stopped, h) in rw (behind ∙ third)

    pub joint-both : (p.stopped || q.stopped) ≡ false → given (record { first = p; second = q }) ≡ joint_of most other r a b
    unfolding joint_of unless pair_tests first_number
    joint-both h = let third : first_number (drop 2 (pair_tests r a b)) ≡ 0 = rw (stopped, h) in rw (behind ∙ third, first, second)

-- 51 and 52 of a checked reference, by what the code tells
or_both : (several one two : Bool) → (several || (one || two)) ≡ ((several || one) || (several || two))
or_both true one two = refl
or_both false one two = refl

module _ (s : List ℕ) (k : Known) (e : Exceptions) (is : k ≡ known_of k.form s k.cds e) (a b : Asked) where
  abbrev r : Reference
  r = reference_of s k.cds e

  unknown-is : (x : Asked) → is_unknown r x ≡ (k.several || ends_past (bare s k.cds) x)
  unfolding is_unknown known_of
  unknown-is x = let several = ap (λ (k : Known). k.several) is in rw (several, past-bare s k.cds e x)

  module _ (apart : Bool) (lies : apart ≡ are_apart (bare s k.cds) a b) where
    is-apart : are_apart r a b ≡ apart
    is-apart = sym (lies ∙ apart_bare s k.cds e a b)

    pub fifty-one : not apart ≡ true → first_number (take 2 (pair_tests r a b)) ≡ 51
    unfolding pair_tests first_number
    fifty-one h = rw (is-apart, h)

    module _ (held : not apart ≡ false) (one two : Bool) (ends : one ≡ ends_past (bare s k.cds) a) (end : two ≡ ends_past (bare s k.cds) b) where
      either : (is_unknown r a || is_unknown r b) ≡ (k.several || (one || two))
      either = rw (unknown-is a, unknown-is b, ends, end) (sym (or_both k.several (ends_past (bare s k.cds) a) (ends_past (bare s k.cds) b)))

      pub fifty-two : (k.several || (one || two)) ≡ true → first_number (take 2 (pair_tests r a b)) ≡ 52
      unfolding pair_tests first_number
      fifty-two h = rw (is-apart, held, either, h)

      pub neither : (k.several || (one || two)) ≡ false → first_number (take 2 (pair_tests r a b)) ≡ 0
      unfolding pair_tests first_number
      neither h = rw (is-apart, held, either, h)

-- an edit that 7 to 10 leave
pub touching : (s : List ℕ) (c : Cds) → Sound (bare s c) → (most : ℕ) (edit : Edit) (new : List ℕ) → first_number (edit_tests most (bare s c) (asked edit new)) ≡ 0 → Touching c (length s) edit
unfolding start_index size
touching s c sound most edit new none =
    let a = edit-allowed (bare s c) sound most (asked edit new) none in
    record {
      bounded = bounded s c sound;
      start-inside = a.start-inside;
      end-inside = a.end-inside;
      starts = (edit-indexes (bare s c) sound most (asked edit new) none).starts;
    }
