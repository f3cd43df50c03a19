-- Laws of the five parts of two plans in a row, and of the room that 11 and 12 leave.
-- Assumes nothing.
use Rattle.std.specs.Prelude.{if◌then◌else◌}
use mathlib.Core.Path.{◌≡◌, refl, ◌∙◌}
use mathlib.Core.Bool.{Bool, true, false}
use mathlib.Core.List.{List}
use Prim.Native.Nat.{ℕ, ◌+◌, ◌-◌, ◌≤◌, ◌<◌}
use native.Mathlib.Omega.{arith}
use lib.Dec.{ltb}
use lib.ListN.{length}
use borrow.Author.Tests.{lt-ltb, le-ltb, ltb-false}
use Rattle.rules.specs.Bytes.{first_number}
use Rattle.rules.specs.Translation.{residue_count}
use Rattle.rules.specs.Pair.{PairRoom, pair_room_tests}
use Rattle.rules.proofs.Pairs.{five_parts, InOrder, length-parts}
use Rattle.edits.specs.declared.plans.Plan.{Plan}
use Rattle.transcript.proofs.Transcripts.{length-goes-in}
use Rattle.pairs.specs.Carrying.{swap_of, both_by, InRow}

module _ (p q : Plan) (s new other : List ℕ) (room : ℕ) where
  -- as much room as the parts behind the first take
  pub row-less : (more : ℕ) → InRow p q s new other room → p.from + (room - p.from) ≤ more → InRow p q s new other more
  row-less more x h = record { source = x.source; rising = x.rising; behind = x.behind; written = omega (arith, x.written, h) }

  module _ (x : InRow p q s new other room) where
    in_order : InOrder (swap_of p s new) (swap_of q s other) s
    unfolding swap_of
    in_order = record { rising = x.rising; apart = x.behind.apart; rises = x.behind.rising; ends = x.behind.ends }

    pub row-length : length (five_parts (swap_of p s new) (swap_of q s other) s) ≡ p.from + (p.kept + ((q.from - p.to) + (q.kept + (length s - q.to))))
    unfolding swap_of
    row-length =
        let one = length-goes-in p s new x.source in
        let two = length-goes-in q s other x.behind.source in
        length-parts (swap_of p s new) (swap_of q s other) s in_order ∙ omega (arith, one, two)

  -- whichever lies ahead
  pub both-ahead : p.to < q.from → both_by p q s new other ≡ five_parts (swap_of p s new) (swap_of q s other) s
  unfolding both_by
  both-ahead h = rw (lt-ltb p.to q.from h)

  pub both_behind : q.from ≤ p.to → both_by p q s new other ≡ five_parts (swap_of q s other) (swap_of p s new) s
  unfolding both_by
  both_behind h = rw (le-ltb p.to q.from h)

-- what room there is, where neither applies
pub room-is : (cs n : ℕ) (room : PairRoom) → first_number (pair_room_tests cs n room) ≡ 0 → (n ≤ room.transcript) × (residue_count (n + 1 - cs) ≤ room.altered)
unfolding pair_room_tests first_number
room-is cs n room h = by (ltb room.transcript n) (ltb room.altered (residue_count (n + 1 - cs))) refl refl h
  where
    by : (a b : Bool) → ltb room.transcript n ≡ a → ltb room.altered (residue_count (n + 1 - cs)) ≡ b → ◌≡◌ {A = ℕ} (if a then 11 else (if b then 12 else 0)) 0
        → (n ≤ room.transcript) × (residue_count (n + 1 - cs) ≤ room.altered)
    by true b p q h = absurd (omega arith)
    by false true p q h = absurd (omega arith)
    by false false p q h = (ltb-false room.transcript n p, ltb-false room.altered (residue_count (n + 1 - cs)) q)
