-- "Text program": what each line is answered, and the whole run.
use Rattle.std.specs.Prelude.{ℕ, zero, suc, ◌+◌, ◌/◌, ◌%◌, List, [], ◌∷◌, ◌++◌, map, true, false, eqb, ltb, if◌then◌else◌}
use Rattle.std.proofs.Math.Option.{Option, none, some}
use Rattle.rules.specs.declared.Class.{Class}
use Rattle.rules.specs.declared.Class.TheVariants.{StartLost, Extension, StopGained, Frameshift, Substitution, Deletion, Duplication, Insertion, Delins}
use Rattle.rules.specs.declared.Change.{Change}
use Rattle.rules.specs.declared.Record.{Record}
use Rattle.rules.specs.declared.Record.TheVariants.{Unknown, NoProtein, Silent, Changed}
use Rattle.rules.specs.Bytes.{bytes, byte, Result, given, refused}
use Rattle.rules.specs.Reference.{Reference, reference_protein}
use Rattle.rules.specs.Edit.{Asked}
use Rattle.rules.specs.Protein.{altered_protein}
use Rattle.rules.specs.Record.{part_of}
use Rattle.rules.specs.Refusal.{reference_refusal, record_unless}
use Rattle.rules.specs.Line.{text_limits, edit_line, reference_line, fits_line}

-- the decimal digits of a number, no leading zero; `fuel` is at least their number
unfoldable pub decimal_of : ℕ → ℕ → List ℕ
decimal_of zero n = []
decimal_of (suc fuel) n =
    let front = decimal_of fuel (n / 10) in
    if ltb n 10 then (byte "0" + n) ∷ [] else front ++ ((byte "0" + n % 10) ∷ [])

-- no number printed has more than six
unfoldable pub decimal : ℕ → List ℕ
decimal n = decimal_of 6 n

-- residues, `-` for none
unfoldable pub shown : List ℕ → List ℕ
shown [] = bytes "-"
shown (x ∷ xs) = x ∷ xs

abbrev pub class_name : Class → List ℕ
class_name StartLost = bytes "start-lost"
class_name Extension = bytes "extension"
class_name StopGained = bytes "stop-gained"
class_name Frameshift = bytes "frameshift"
class_name Substitution = bytes "substitution"
class_name Deletion = bytes "deletion"
class_name Duplication = bytes "duplication"
class_name Insertion = bytes "insertion"
class_name Delins = bytes "delins"

unfoldable pub refused_line : ℕ → List ℕ
refused_line n = bytes "refused " ++ decimal n

-- behind a duplication stands the number of its first residue
unfoldable pub shown_first : ℕ → List ℕ
shown_first first = if eqb first 0 then [] else bytes " " ++ decimal first

unfoldable pub change_line : Change → List ℕ → List ℕ → List ℕ
change_line c R A =
    class_name c.class ++ (bytes " " ++ (decimal c.number
    ++ (bytes " " ++ (shown (part_of c.deleted R)
    ++ (bytes " " ++ (shown (part_of c.inserted A)
    ++ shown_first c.first))))))

unfoldable pub record_line : Record → List ℕ → List ℕ → List ℕ
record_line Unknown R A = bytes "unknown"
record_line NoProtein R A = bytes "no-protein"
record_line (Silent n x) R A = bytes "silent " ++ (decimal n ++ (bytes " " ++ (x ∷ bytes " " ++ (x ∷ []))))
record_line (Changed c) R A = change_line c R A

unfoldable pub answer_line : Result Record → List ℕ → List ℕ → List ℕ
answer_line (given x) R A = record_line x R A
answer_line (refused n) R A = refused_line n

-- an edit's answer; a line not in the form is 30
unfoldable pub edit_answer : Reference → Option Asked → List ℕ
edit_answer r none = refused_line 30
edit_answer r (some e) = answer_line (record_unless text_limits r e) (reference_protein r) (altered_protein r e)

unfoldable pub edit_line_answer : Reference → List ℕ → List ℕ
edit_line_answer r s = edit_answer r (if fits_line s then edit_line s else none)

-- an accepted first line prints R, and the edits follow; a refused one prints its `refused` line and ends the run
unfoldable pub answers_from : ℕ → Reference → List (List ℕ) → List (List ℕ)
answers_from zero r lines = (bytes "reference " ++ reference_protein r) ∷ map (edit_line_answer r) lines
answers_from (suc n) r lines = refused_line (suc n) ∷ []

unfoldable pub answers_of : Option Reference → List (List ℕ) → List (List ℕ)
answers_of none lines = refused_line 30 ∷ []
answers_of (some r) lines = answers_from (reference_refusal text_limits.longest r) r lines

-- what the lines of an input are answered
unfoldable pub answers : List (List ℕ) → List (List ℕ)
answers [] = []
answers (s ∷ lines) = answers_of (if fits_line s then reference_line s else none) lines

abbrev pub line_feed : ℕ
line_feed = 10

-- a line ends at a line feed, the last perhaps without; `line` is what stands before the bytes in theirs
unfoldable pub lines_from : List ℕ → List ℕ → List (List ℕ)
lines_from [] [] = []
lines_from (x ∷ xs) [] = (x ∷ xs) ∷ []
lines_from line (b ∷ s) = elim (eqb b line_feed) [ true ↦ line ∷ lines_from [] s | false ↦ lines_from (line ++ (b ∷ [])) s ]

unfoldable pub lines : List ℕ → List (List ℕ)
lines s = lines_from [] s

-- every output line ends in a line feed
unfoldable pub unlines : List (List ℕ) → List ℕ
unlines [] = []
unlines (l ∷ ls) = l ++ (line_feed ∷ unlines ls)

-- what the program prints on an input
unfoldable pub run : List ℕ → List ℕ
run input = unlines (answers (lines input))
