-- What is kept between two steps: a state, and the buffers that are lent to each.
use Rattle.std.specs.Prelude.{ℕ, ◌≤◌, ◌<◌, ◌≡◌, List, [], ◌++◌, ltb, length, take, if◌then◌else◌, Option, None, Some}
use Rattle.bytewise.specs.Find.{index_of}
use Rattle.rules.specs.Bytes.{over}
use Rattle.rules.specs.Run.{line_feed}
use Rattle.text_answers.specs.declared.Phase.{Phase}
use Rattle.text_answers.specs.declared.Phase.TheVariants.{Opening, Editing, Ended}
use Rattle.text_answers.specs.declared.first.Opened.{Opened}
use Rattle.text_answers.specs.Rooms.{line_room, letters_room, protein_room}
use Rattle.text_answers.specs.Stage.{Stage, opening, editing, ended, next_line, answered}
use Rattle.text_answers.specs.Lines.{stage_by, KnownIn, letters_of, protein_of}
use Rattle.text_lines.specs.declared.State.{State}
use Rattle.text_gather.specs.Steps.{kept, Moves, Full}

-- before the first byte
abbrev pub fresh : State
fresh = record { phase = Opening; held = 0 }

abbrev pub stage_of : State → List ℕ → List ℕ → Stage
stage_of s line letters = stage_by s.phase (take s.held line) letters

-- what is held behind the first line's end: nothing of an edit line; the line itself, where it was refused
abbrev pub held_behind : Phase → ℕ → ℕ
held_behind Opening n = 0
held_behind (Editing k size) n = 0
held_behind Ended n = n

-- the buffers have room for the longest line, and for the letters and R of the longest reference
pub record Rooms (line letters protein : List ℕ) : Type 0 where
  pub for-line : length line ≡ line_room
  pub for-letters : length letters ≡ letters_room
  pub for-protein : length protein ≡ protein_room

-- what a step finds and leaves
pub record Keeps (s : State) (letters protein : List ℕ) : Type 0 where
  pub short : s.held ≤ line_room
  pub known : KnownIn s.phase letters protein

-- where the run stands behind its first line, if that ends in s; else `ended`, of which nothing is kept
unfoldable pub first_end : Stage → List ℕ → Stage
first_end (opening l) s = if ltb (index_of line_feed s) (length s) then next_line (opening (kept (l ++ take (index_of line_feed s) s))) else ended
first_end (editing r l) s = ended
first_end ended s = ended

-- what is kept of the reference at x is written over the letters and R, and nothing else
pub record Fills (x : Stage) (letters letters' protein protein' : List ℕ) : Type 0 where
  pub with-letters : letters' ≡ over (letters_of x) letters
  pub with-protein : protein' ≡ over (protein_of x) protein

-- the answer to a first line's end, where it was put out
pub record Printed (x : Stage) (o : Opened) (letters protein out out' : List ℕ) : Type 0 where
  pub counts : o.size ≡ length (answered x)
  pub prints : out' ≡ over (answered x) out
  pub reaches : stage_by o.phase [] letters ≡ next_line x
  pub known : KnownIn o.phase letters protein

-- A first line's end, answered into the output: nothing is put out where there is no room.
abbrev pub Put : Stage → Option Opened → List ℕ → List ℕ → List ℕ → List ℕ → Type 0
Put x None letters protein out out' = (length out < length (answered x)) × (out' ≡ out)
Put x (Some o) letters protein out out' = Printed x o letters protein out out'

-- A step up to the first line's end; where the line goes on, all is taken, or there is no room for its answer.
pub record Begins (x : Stage) (s : State) (line letters input : List ℕ) (taken used : ℕ) (out out' : List ℕ) : Type 0 where
  pub room : length line ≡ line_room
  pub moves : Moves x (stage_of s line letters) input taken used out out'
  pub stays : s.phase ≡ Opening → Full x input taken out
