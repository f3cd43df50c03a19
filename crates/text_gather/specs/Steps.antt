-- What further bytes of the input make of where a run stands, and what is printed for them.
use Rattle.std.specs.Prelude.{ℕ, ◌+◌, ◌≤◌, ◌<◌, ◌≡◌, List, [], ◌∷◌, ◌++◌, true, false, eqb, leb, length, take, if◌then◌else◌}
use Rattle.bytewise.specs.Find.{index_of}
use Rattle.rules.specs.Bytes.{is_none, Result, given, refused, over}
use Rattle.rules.specs.Run.{line_feed}
use Rattle.text_answers.specs.Rooms.{line_room}
use Rattle.text_answers.specs.Stage.{Stage, opening, editing, ended, next_line, answered}

-- of a line, as many bytes as tell that it is too long
unfoldable pub kept : List ℕ → List ℕ
kept line = take line_room line

-- the line so far
abbrev pub line_of : Stage → List ℕ
line_of (opening l) = l
line_of (editing r l) = l
line_of ended = []

-- with further bytes of the line
unfoldable pub longer : Stage → List ℕ → Stage
longer (opening l) s = opening (kept (l ++ s))
longer (editing r l) s = editing r (kept (l ++ s))
longer ended s = ended

-- where the run stands behind the bytes s
unfoldable pub after : Stage → List ℕ → Stage
after x [] = x
after x (b ∷ s) = elim (eqb b line_feed) [ true ↦ after (next_line x) s | false ↦ after (longer x (b ∷ [])) s ]

-- what is printed for the lines that end in s
unfoldable pub printed : Stage → List ℕ → List ℕ
printed x [] = []
printed x (b ∷ s) = elim (eqb b line_feed) [ true ↦ answered x ++ printed (next_line x) s | false ↦ printed (longer x (b ∷ [])) s ]

-- what is printed at the input's end: for a last line that no line feed ends
unfoldable pub printed_last : Stage → List ℕ
printed_last x = if is_none (line_of x) then [] else answered x

-- bytes to be put out, or 15 where there is no room for them
unfoldable pub within : List ℕ → ℕ → Result (List ℕ)
within s room = if leb (length s) room then given s else refused 15

unfoldable pub last : Stage → ℕ → Result (List ℕ)
last x room = within (printed_last x) room

-- The line so far, l, takes the bytes of a piece of input that stand before its first line feed.
pub record Gathers (l l' input : List ℕ) (taken : ℕ) : Type 0 where
  pub short : length l ≤ line_room
  pub ends : taken ≡ index_of line_feed input
  pub inside : taken ≤ length input
  pub holds : l' ≡ kept (l ++ take taken input)

-- A move over the first `taken` bytes of a piece of input prints what they are answered.
pub record Moves (x x' : Stage) (input : List ℕ) (taken used : ℕ) (out out' : List ℕ) : Type 0 where
  pub inside : taken ≤ length input
  pub reaches : x' ≡ after x (take taken input)
  pub prints : out' ≡ over (printed x (take taken input)) out
  pub counts : used ≡ length (printed x (take taken input))
  pub fits : used ≤ length out

-- The output has no room for the answer that one byte more would print.
abbrev pub Full : Stage → List ℕ → ℕ → List ℕ → Type 0
Full x input taken out = taken < length input → length out < length (printed x (take (taken + 1) input))

-- A step takes as many bytes of the piece as the output has room for the answers of.
pub record Steps (x x' : Stage) (input : List ℕ) (taken used : ℕ) (out out' : List ℕ) : Type 0 where
  pub moves : Moves x x' input taken used out out'
  pub most : Full x input taken out
