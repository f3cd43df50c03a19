-- What a pair is answered, refusal by refusal; of two accepted edits both orders are answered the same.
-- Assumes nothing.
use mathlib.Core.Path.{◌≡◌, refl, sym, ap, ◌∙◌}
use mathlib.Core.List.{List, [], ◌++◌}
use Prim.Native.Nat.{ℕ, zero, suc}
use native.Mathlib.Omega.{arith}
use Rattle.rules.specs.Bytes.{all, Test, first_number, refused, over}
use Rattle.rules.specs.Reference.{Reference, reference_tests}
use Rattle.rules.specs.Edit.{Asked, edit_tests}
use Rattle.rules.specs.Refusal.{reference_refusal}
use Rattle.rules.specs.Pair.{pair_tests, pair_transcript, pair_protein, pair_length, PairRoom, pair_room_tests, PairLimits, pair_refusal, PairOutcome, pair_by, pair_outcome, Pairs}
use Rattle.rules.proofs.Tests.{first_behind, first_before}
use Rattle.rules.proofs.Pairs.{length_commutes, pair-commutes, protein-commutes, tests_commute, touches_of, joins}

-- an outcome that writes nothing
unfoldable pub pair_nothing : ℕ → PairOutcome
pair_nothing n = record { answer = refused n; transcript = []; altered = [] }

-- what is written where nothing is refused
unfoldable pub pair_all : Reference → Asked → Asked → PairOutcome
pair_all r e f = pair_by 0 (pair_transcript r e f) (pair_protein r e f)

-- a refused pair leaves the buffers
pub pairs_nothing : (o : PairOutcome) (n : ℕ) (t a : List ℕ) → o ≡ pair_nothing n → Pairs o (refused n) t t a a
unfolding pair_nothing over
pairs_nothing o n t a h = rw h (record { says = refl; holds-transcript = refl; holds-altered = refl })

module _ (m : PairLimits) (r : Reference) (e f : Asked) (room : PairRoom) where
  nothing : (n : ℕ) → pair_refusal m r e f room ≡ n → (n ≡ 0 → ⊥) → pair_outcome m r e f room ≡ pair_nothing n
  unfolding pair_outcome pair_by pair_nothing
  nothing zero h some = absurd (some refl)
  nothing (suc n) h some = rw h

  before : (ts us : List Test) → pair_refusal m r e f room ≡ first_number (ts ++ us) → (n : ℕ) → first_number ts ≡ n → (n ≡ 0 → ⊥) → pair_outcome m r e f room ≡ pair_nothing n
  before ts us is zero h some = absurd (some refl)
  before ts us is (suc n) h some = nothing (suc n) (is ∙ first_before ts us n h) some

  -- the tests behind those that don't apply
  behind-edits : List Test
  behind-edits = pair_tests r e f ++ pair_room_tests r.cs (pair_length r e f) room

  pub reference-refused : (n : ℕ) → reference_refusal m.longest r ≡ n → (n ≡ 0 → ⊥) → pair_outcome m r e f room ≡ pair_nothing n
  unfolding pair_refusal reference_refusal
  reference-refused n h some = before (reference_tests m.longest r) _ refl n h some

  module _ (good : reference_refusal m.longest r ≡ 0) where
    past-reference : pair_refusal m r e f room ≡ first_number (edit_tests m.first r e ++ (edit_tests m.second r f ++ behind-edits))
    unfolding pair_refusal reference_refusal reference_tests all behind-edits
    past-reference = first_behind (reference_tests m.longest r) _ refl good

    pub first-refused : (n : ℕ) → first_number (edit_tests m.first r e) ≡ n → (n ≡ 0 → ⊥) → pair_outcome m r e f room ≡ pair_nothing n
    first-refused n h some = before (edit_tests m.first r e) _ past-reference n h some

    module _ (first : first_number (edit_tests m.first r e) ≡ 0) where
      past_first : pair_refusal m r e f room ≡ first_number (edit_tests m.second r f ++ behind-edits)
      unfolding edit_tests all
      past_first = past-reference ∙ first_behind (edit_tests m.first r e) _ refl first

      pub second-refused : (n : ℕ) → first_number (edit_tests m.second r f) ≡ n → (n ≡ 0 → ⊥) → pair_outcome m r e f room ≡ pair_nothing n
      second-refused n h some = before (edit_tests m.second r f) _ past_first n h some

      module _ (second : first_number (edit_tests m.second r f) ≡ 0) where
        pub past-edits : pair_refusal m r e f room ≡ first_number (pair_tests r e f ++ pair_room_tests r.cs (pair_length r e f) room)
        unfolding edit_tests all behind-edits
        past-edits = past_first ∙ first_behind (edit_tests m.second r f) _ refl second

        pub pair-refused : (n : ℕ) → first_number (pair_tests r e f) ≡ n → (n ≡ 0 → ⊥) → pair_outcome m r e f room ≡ pair_nothing n
        pair-refused n h some = before (pair_tests r e f) _ past-edits n h some

        module _ (both : first_number (pair_tests r e f) ≡ 0) where
          past-pair : pair_refusal m r e f room ≡ first_number (pair_room_tests r.cs (pair_length r e f) room)
          unfolding pair_tests all
          past-pair = past-edits ∙ first_behind (pair_tests r e f) _ refl both

          pub room-refused : (n : ℕ) → first_number (pair_room_tests r.cs (pair_length r e f) room) ≡ n → (n ≡ 0 → ⊥) → pair_outcome m r e f room ≡ pair_nothing n
          room-refused n h some = nothing n (past-pair ∙ h) some

          pub pair_goes : first_number (pair_room_tests r.cs (pair_length r e f) room) ≡ 0 → pair_outcome m r e f room ≡ pair_all r e f
          unfolding pair_outcome pair_all
          pair_goes h = rw (past-pair ∙ h)

-- the limits of the other order
abbrev pub turned : PairLimits → PairLimits
turned m = record { longest = m.longest; first = m.second; second = m.first }

outcome-by : (m n : PairLimits) (r : Reference) (e f : Asked) (room : PairRoom) → pair_refusal m r e f room ≡ pair_refusal n r f e room
    → pair_transcript r e f ≡ pair_transcript r f e → pair_protein r e f ≡ pair_protein r f e → pair_outcome m r e f room ≡ pair_outcome n r f e room
unfolding pair_outcome
outcome-by m n r e f room a b c = rw (a, b, c)

-- "Both orders give the same": of two edits that 7 to 10 leave, the answer and what is written, refusals too
module _ (m : PairLimits) (r : Reference) (e f : Asked) (room : PairRoom) (good : reference_refusal m.longest r ≡ 0)
    (first : first_number (edit_tests m.first r e) ≡ 0) (second : first_number (edit_tests m.second r f) ≡ 0) where
  pub both-orders : pair_outcome m r e f room ≡ pair_outcome (turned m) r f e room
  both-orders = by (first_number (pair_tests r e f)) refl
    where
      by : (n : ℕ) → first_number (pair_tests r e f) ≡ n → pair_outcome m r e f room ≡ pair_outcome (turned m) r f e room
      by (suc n) h =
          pair-refused m r e f room good first second (suc n) h (λ z. omega arith)
          ∙ sym (pair-refused (turned m) r f e room good second first (suc n) (ap first_number (tests_commute r f e) ∙ h) (λ z. omega arith))
      by zero h =
          let te = touches_of m.longest m.first r e good first in
          let tf = touches_of m.longest m.second r f good second in
          let apart = (joins r e f h).apart in
          let refusals : pair_refusal m r e f room ≡ pair_refusal (turned m) r f e room =
          past-edits m r e f room good first second
          ∙ (ap (λ (ts : List Test). first_number (ts ++ pair_room_tests r.cs (pair_length r e f) room)) (tests_commute r e f)
          ∙ ap (λ (n : ℕ). first_number (pair_tests r f e ++ pair_room_tests r.cs n room)) (length_commutes r e f))
          ∙ sym (past-edits (turned m) r f e room good second first) in
          outcome-by m (turned m) r e f room refusals (pair-commutes r e f te tf apart) (protein-commutes r e f te tf apart)
