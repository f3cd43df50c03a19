-- An exception among those of a reference.
use Rattle.std.specs.Prelude.{ℕ, Bool, ◌&&◌, leb, ltb}
use Rattle.rules.specs.declared.Exception.{Exception}
use Rattle.rules.specs.Translation.{is_residue}

-- an exception in its order: a codon number above `last` and at most `most`, and a residue A to Z or `*`
abbrev pub is_exception : ℕ → ℕ → Exception → Bool
is_exception last most x = ltb last x.codon && leb x.codon most && is_residue x.residue
