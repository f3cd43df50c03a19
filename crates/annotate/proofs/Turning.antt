-- Laws of a piece that is answered step by step, and of a read.
-- Assumes nothing.
use mathlib.Core.Path.{◌≡◌, refl, ◌∙◌}
use mathlib.Core.List.{List}
use Prim.Native.Nat.{ℕ, ◌+◌, ◌-◌, ◌^◌, ◌≤◌, ◌<◌}
use native.Mathlib.Omega.{arith}
use lib.ListN.{length, take, drop, length-drop}
use lib.Seq.{length-take-le, take-length}
use Rattle.rules.proofs.Over.{tail-is}
use Rattle.text_answers.specs.Stage.{Stage}
use Rattle.text_lines.specs.declared.State.{State}
use Rattle.text_gather.specs.Steps.{after, Steps}
use Rattle.text_lines.specs.Memory.{stage_of, Rooms, Keeps}
use Rattle.text_lines.proofs.Turns.{row-reached}
use Rattle.text_lines.proofs.Room.{takes_some}
use Rattle.text_lines.proofs.Rooms.{rooms_kept}
use Rattle.std.specs.Prelude.{Ok}
use Rattle.annotate.specs.Turns.{piece_room, Stepped}

-- a step whose answers were written took what its result says
pub written : (n : ℕ) (x x' : Stage) (input out out' : List ℕ) → Stepped (Ok n) x x' input out out' → (used : ℕ) × Steps x x' input n used out out'
written n x x' input out out' k = (k.used, rw k.told k.steps)

-- at the head of a turn: the run stands behind the first `at` bytes of a piece
pub record Reached (x : Stage) (s : State) (input line letters protein out line₀ letters₀ protein₀ : List ℕ) (at : ℕ) : Type 0 where
  pub rooms : Rooms line letters protein
  pub keeps : Keeps s letters protein
  pub stage : stage_of s line letters ≡ after x (take at input)
  pub inside : at ≤ length input
  pub room : length out ≡ piece_room
  pub small : length input < 2 ^ 64
  pub of-line : length line ≡ length line₀
  pub of-letters : length letters ≡ length letters₀
  pub of-protein : length protein ≡ length protein₀

pub reached_none : (s : State) (input line letters protein out : List ℕ) → Rooms line letters protein → Keeps s letters protein → length out ≡ piece_room → length input < 2 ^ 64
    → Reached (stage_of s line letters) s input line letters protein out line letters protein 0
unfolding after
reached_none s input line letters protein out rooms keeps room small =
    record { rooms = rooms; keeps = keeps; stage = refl; inside = omega arith; room = room; small = small; of-line = refl; of-letters = refl; of-protein = refl }

-- the rest of the piece
pub rest-length : (input : List ℕ) (at : ℕ) → length (take (length input - at) (drop at input)) ≡ length input - at
rest-length input at = length-take-le (length input - at) (drop at input) (rw length-drop (omega arith))

module _ (x : Stage) (s : State) (input line letters protein out line₀ letters₀ protein₀ : List ℕ) (at : ℕ) (g : Reached x s input line letters protein out line₀ letters₀ protein₀ at) where
  -- t bytes more
  module _ (s' : State) (line' letters' out' : List ℕ) (t u : ℕ) (k : Steps (stage_of s line letters) (stage_of s' line' letters') (take (length input - at) (drop at input)) t u out out') where
    goes_on : at + t ≤ length input
    goes_on = omega (arith, k.moves.inside, rest-length input at, g.inside)

    pub sum_fits : at + t < 2 ^ 64
    sum_fits = omega (arith, goes_on, g.small)

    -- the output has room for any answer
    pub falls : at < length input → length input - (at + t) < length input - at
    falls h =
        let some : 1 ≤ t = takes_some s line letters protein g.keeps (stage_of s' line' letters') (take (length input - at) (drop at input)) t u out out' k (omega (arith, g.room)) (omega (arith, rest-length input at)) in
        omega arith

    pub reached-on : (protein' : List ℕ) → Keeps s' letters' protein' → length line' ≡ length line → length letters' ≡ length letters → length protein' ≡ length protein → length out' ≡ length out
        → Reached x s' input line' letters' protein' out' line₀ letters₀ protein₀ (at + t)
    reached-on protein' keeps a b c d =
        record {
          rooms = rooms_kept line letters protein line' letters' protein' g.rooms a b c;
          keeps = keeps;
          stage = k.moves.reaches ∙ rw (tail-is at input) (row-reached x (stage_of s line letters) input at g.stage t);
          inside = goes_on;
          room = d ∙ g.room;
          small = g.small;
          of-line = a ∙ g.of-line;
          of-letters = b ∙ g.of-letters;
          of-protein = c ∙ g.of-protein;
        }

  pub reached-all : length input ≤ at → stage_of s line letters ≡ after x input
  reached-all h = let done : at ≡ length input = omega (arith, g.inside) in g.stage ∙ rw (done, take-length input)
