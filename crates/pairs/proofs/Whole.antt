-- Laws of the whole answer to a pair.
-- Assumes nothing.
use mathlib.Core.Path.{◌≡◌, refl, sym}
use mathlib.Core.List.{List}
use Prim.Native.Nat.{ℕ, zero, suc, ◌≤◌}
use native.Mathlib.Omega.{arith}
use lib.ListN.{length, take}
use Rattle.rules.specs.declared.Refusal.{Refusal}
use Rattle.rules.specs.Bytes.{given, refused, first_number, over}
use Rattle.rules.specs.Pair.{pair_room_tests, PairRoom, pair_transcript, pair_protein, pair_length, PairOutcome, pair_by, pair_outcome, Pairs}
use Rattle.rules.specs.Refusals.{refusal_number}
use Rattle.rules.specs.Views.{asked, reference_of}
use Rattle.rules.proofs.Over.{fits_over, read_back}
use Rattle.rules.proofs.PairAnswers.{pair_nothing, pair_all, room-refused, pair_goes}
use Rattle.reference.specs.declared.Known.{Known}
use Rattle.reference.proofs.Judging.{number_some}
use Rattle.edits.specs.declared.plans.Plan.{Plan}
use Rattle.pairs.specs.Carrying.{both_by, protein_in, pair_room_of, length_by, carried_outcome, Codes, Goes}
use Rattle.pairs.proofs.Rows.{room-is}
use Rattle.pairs.proofs.Carrying.{length-is, both_is, protein-is, pair-codes}

module _ (s : List ℕ) (k : Known) (p q : Plan) (new other t alt : List ℕ) where
  abbrev room : PairRoom
  room = pair_room_of t alt

  abbrev outcome : PairOutcome
  outcome = carried_outcome k.cds p q s new other room

  -- 11 or 12
  pub carried-refused : (x : Refusal) → refusal_number x ≡ first_number (pair_room_tests k.cds.cs (length_by p q s) room) → Pairs outcome (refused (refusal_number x)) t t alt alt
  unfolding carried_outcome pair_by over
  carried-refused x h = by (refusal_number x) h (number_some x)
    where
      by : (n : ℕ) → n ≡ first_number (pair_room_tests k.cds.cs (length_by p q s) room) → (n ≡ 0 → ⊥) → Pairs outcome (refused n) t t alt alt
      by zero h some = absurd (some refl)
      by (suc n) h some = rw (← h) (record { says = refl; holds-transcript = refl; holds-altered = refl })

  module _ (x : Goes s k p q new other) (none : 0 ≡ first_number (pair_room_tests k.cds.cs (length_by p q s) room)) where
    pub transcript-room : length_by p q s ≤ length t
    transcript-room = (room-is k.cds.cs (length_by p q s) room (sym none)).0

    -- the transcript is written
    module _ (i : ℕ) (t' : List ℕ) (counted : i ≡ length (both_by p q s new other)) (written : t' ≡ over (both_by p q s new other) t) where
      pub transcript-fits : i ≤ length t'
      transcript-fits = fits_over (both_by p q s new other) t t' i counted written

      transcript-back : take i t' ≡ both_by p q s new other
      transcript-back = read_back (both_by p q s new other) t t' i counted written

      pub codes : Codes k new other (take i t') alt
      codes = rw transcript-back (pair-codes s k p q new other x alt (room-is k.cds.cs (length_by p q s) room (sym none)).1)

      -- and its protein
      pub carried : (j : ℕ) (alt' : List ℕ) → j ≡ length (protein_in k.cds (take i t')) → alt' ≡ over (protein_in k.cds (take i t')) alt → Pairs outcome (given (record { transcript = i; altered = j })) t t' alt alt'
      unfolding carried_outcome pair_by
      carried j alt' read held =
          let count : j ≡ length (protein_in k.cds (both_by p q s new other)) = rw transcript-back at read in
          let holds : alt' ≡ over (protein_in k.cds (both_by p q s new other)) alt = rw transcript-back at held in
          rw (sym none) (record { says = rw (counted, count); holds-transcript = written; holds-altered = holds })

-- what two plans that go are answered is the pair's outcome
pub outcome-is : (s : List ℕ) (k : Known) (p q : Plan) (new other : List ℕ) (x : Goes s k p q new other) (room : PairRoom)
    → carried_outcome k.cds p q s new other room ≡ pair_outcome x.limits (reference_of s k.cds x.exceptions) (asked x.first new) (asked x.second other) room
unfolding carried_outcome pair_by pair_nothing pair_all
outcome-is s k p q new other x room =
    rw (length-is s k p q new other x, protein-is s k p q new other x, both_is s k p q new other x)
    (by (first_number (pair_room_tests k.cds.cs (pair_length (reference_of s k.cds x.exceptions) (asked x.first new) (asked x.second other)) room)) refl)
  where
    by : (n : ℕ) → first_number (pair_room_tests k.cds.cs (pair_length (reference_of s k.cds x.exceptions) (asked x.first new) (asked x.second other)) room) ≡ n
        → pair_by n (pair_transcript (reference_of s k.cds x.exceptions) (asked x.first new) (asked x.second other)) (pair_protein (reference_of s k.cds x.exceptions) (asked x.first new) (asked x.second other))
        ≡ pair_outcome x.limits (reference_of s k.cds x.exceptions) (asked x.first new) (asked x.second other) room
    by zero h = sym (pair_goes x.limits (reference_of s k.cds x.exceptions) (asked x.first new) (asked x.second other) room x.accepted x.first-allowed x.second-allowed x.joined h)
    by (suc n) h = sym (room-refused x.limits (reference_of s k.cds x.exceptions) (asked x.first new) (asked x.second other) room x.accepted x.first-allowed x.second-allowed x.joined (suc n) h (λ z. omega arith))
