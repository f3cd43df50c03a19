-- The run of a whole input into a buffer.
use Rattle.std.specs.Prelude.{ℕ, ◌^◌, ◌≤◌, ◌<◌, ◌≡◌, List, length, take}
use Rattle.rules.specs.Bytes.{Result, over}
use Rattle.rules.specs.Run.{run}
use Rattle.text_answers.specs.Stage.{Stage, start}
use Rattle.text_lines.specs.declared.State.{State}
use Rattle.text_gather.specs.Steps.{after, printed, within}
use Rattle.text_lines.specs.Memory.{stage_of, Rooms, Keeps}

-- what the program prints on an input, or 15 where that doesn't fit
unfoldable pub run_within : List ℕ → ℕ → Result (List ℕ)
run_within input room = within (run input) room

-- all lines that end in the input are answered, and there is room for the rest of the run
pub record Wrote (x : Stage) (input : List ℕ) (used : ℕ) (out out' : List ℕ) : Type 0 where
  pub reaches : x ≡ after start input
  pub prints : out' ≡ over (printed start input) out
  pub counts : used ≡ length (printed start input)
  pub room : length (run input) ≤ length out

-- behind the first `at` bytes of an input, which print `total`, at most `most`
pub record Counted (s : State) (input line letters protein : List ℕ) (at total most : ℕ) : Type 0 where
  pub rooms : Rooms line letters protein
  pub keeps : Keeps s letters protein
  pub inside : at ≤ length input
  pub stage : stage_of s line letters ≡ after start (take at input)
  pub counts : total ≡ length (printed start (take at input))
  pub fits : total ≤ most
  pub small : most < 2 ^ 64
