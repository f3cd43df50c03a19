-- The text program's sizes, in bytes: those of the constants in src/lib.rt.
use Rattle.std.specs.Prelude.{ℕ, ◌≡◌, List, length}

-- a line of 20,480 bytes, and one more, which tells that a line is longer
abbrev pub line_room : ℕ
line_room = 20481

-- the longest transcript, and its R
abbrev pub letters_room : ℕ
letters_room = 16384

abbrev pub protein_room : ℕ
protein_room = 5462

-- the longest altered transcript, and its A
abbrev pub transcript_room : ℕ
transcript_room = 32768

abbrev pub altered_room : ℕ
altered_room = 10923

-- any answer to a first line, and any answer, each with its line feed
abbrev pub first_room : ℕ
first_room = 5473

abbrev pub answer_room : ℕ
answer_room = 16415

-- buffers for the longest altered transcript and its protein
pub record Ample (transcript altered : List ℕ) : Type 0 where
  pub for-transcript : length transcript ≡ transcript_room
  pub for-altered : length altered ≡ altered_room
