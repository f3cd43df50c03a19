-- The line of a silent record, which looks at neither protein, and the end of a changed one's.
use Rattle.std.specs.Prelude.{ℕ, List, [], ◌++◌}
use Rattle.rules.specs.declared.Record.TheVariants.{Silent}
use Rattle.rules.specs.Bytes.{bytes}
use Rattle.rules.specs.Run.{shown, shown_first, record_line}

abbrev pub silent_line : ℕ → ℕ → List ℕ
silent_line number residue = record_line (Silent number residue) [] []

-- deleted and inserted residues, and the first residue of a copy
abbrev pub parts_line : List ℕ → List ℕ → ℕ → List ℕ
parts_line deleted inserted first = bytes " " ++ (shown deleted ++ (bytes " " ++ (shown inserted ++ shown_first first)))
