-- The longest edits of a pair (E12, E13): two edits, each with more new bases than its longest or not, are answered as `bases_within` hands them on, at the
-- module's own limits.
-- Assumes nothing.
use mathlib.Core.Path.{◌≡◌, refl, sym, ap, ◌∙◌}
use mathlib.Core.Bool.{true}
use mathlib.Core.List.{List}
use Prim.Native.Nat.{ℕ, zero, suc}
use native.Mathlib.Omega.{arith}
use Rattle.rules.specs.declared.Edit.{Edit}
use Rattle.rules.specs.Bytes.{first_number}
use Rattle.rules.specs.Reference.{Reference}
use Rattle.rules.specs.Edit.{Asked, edit_tests}
use Rattle.rules.specs.Refusal.{limits, reference_refusal}
use Rattle.rules.specs.Views.{asked}
use Rattle.rules.specs.Pair.{PairRoom, PairLimits, pair_limits, pair_refusal, pair_outcome}
use Rattle.rules.specs.Longest.{is_given_longest, limits_with}
use Rattle.rules.proofs.WithLongest.{handed, edits-within, bases-clear}
use Rattle.rules.proofs.PairAnswers.{reference-refused, first-refused, second-refused, past-edits}

same-refusal : (m l : PairLimits) (r : Reference) (a b : Asked) (room : PairRoom) → pair_refusal m r a b room ≡ pair_refusal l r a b room
    → pair_outcome m r a b room ≡ pair_outcome l r a b room
unfolding pair_outcome
same-refusal m l r a b room h = rw h

module _ (n k : ℕ) (h : is_given_longest n ≡ true) (g : is_given_longest k ≡ true) (r : Reference) (e f : Edit) (new other : List ℕ) (room : PairRoom) where
  -- the limits of two longest edits
  abbrev pub limits_of : PairLimits
  limits_of = record { longest = limits.longest; first = (limits_with n).most; second = (limits_with k).most }

  abbrev first : Asked
  first = handed n h r e new

  abbrev second : Asked
  second = handed k g r f other

  abbrev Same : Type 0
  Same = pair_outcome limits_of r (asked e new) (asked f other) room ≡ pair_outcome pair_limits r first second room

  module _ (good : reference_refusal limits.longest r ≡ 0) where
    both_go : first_number (edit_tests 4096 r first) ≡ 0 → first_number (edit_tests 4096 r second) ≡ 0 → Same
    both_go p q =
        let a = bases-clear n h r e new p in
        let b = bases-clear k g r f other q in
        let refusals : pair_refusal limits_of r (asked e new) (asked f other) room ≡ pair_refusal pair_limits r (asked e new) (asked f other) room =
        past-edits limits_of r (asked e new) (asked f other) room good (ap first_number (edits-within n h r e new) ∙ p) (ap first_number (edits-within k g r f other) ∙ q)
        ∙ sym (past-edits pair_limits r (asked e new) (asked f other) room good (ap (λ (s : List ℕ). first_number (edit_tests 4096 r (asked e s))) (sym a) ∙ p) (ap (λ (s : List ℕ). first_number (edit_tests 4096 r (asked f s))) (sym b) ∙ q)) in
        same-refusal limits_of pair_limits r (asked e new) (asked f other) room refusals
        ∙ (ap (λ (s : List ℕ). pair_outcome pair_limits r (asked e s) (asked f other) room) (sym a)
        ∙ ap (λ (s : List ℕ). pair_outcome pair_limits r first (asked f s) room) (sym b))

    second-judged : first_number (edit_tests 4096 r first) ≡ 0 → (x : ℕ) → first_number (edit_tests 4096 r second) ≡ x → Same
    second-judged p (suc x) q =
        second-refused limits_of r (asked e new) (asked f other) room good (ap first_number (edits-within n h r e new) ∙ p) (suc x) (ap first_number (edits-within k g r f other) ∙ q) (λ z. omega arith)
        ∙ sym (second-refused pair_limits r first second room good p (suc x) q (λ z. omega arith))
    second-judged p zero q = both_go p q

    first-judged : (x : ℕ) → first_number (edit_tests 4096 r first) ≡ x → Same
    first-judged (suc x) p =
        first-refused limits_of r (asked e new) (asked f other) room good (suc x) (ap first_number (edits-within n h r e new) ∙ p) (λ z. omega arith)
        ∙ sym (first-refused pair_limits r first second room good (suc x) p (λ z. omega arith))
    first-judged zero p = second-judged p (first_number (edit_tests 4096 r second)) refl

  reference-judged : (x : ℕ) → reference_refusal limits.longest r ≡ x → Same
  reference-judged (suc x) p =
      reference-refused limits_of r (asked e new) (asked f other) room (suc x) p (λ z. omega arith)
      ∙ sym (reference-refused pair_limits r first second room (suc x) p (λ z. omega arith))
  reference-judged zero p = first-judged p (first_number (edit_tests 4096 r first)) refl

  pub pair-within : Same
  pair-within = reference-judged (reference_refusal limits.longest r) refl
