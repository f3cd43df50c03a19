-- What residues make together. Assumes nothing: these are definitions.
use Rattle.std.specs.Prelude.{ℕ, Bool, ◌&&◌, ◌||◌, eqb, if◌then◌else◌}
use Rattle.rules.specs.Bytes.{byte}
use Rattle.rules.specs.Codons.{residue_x}

-- D, N or their mix B; E, Q or their mix Z
abbrev pub is_asx : ℕ → Bool
is_asx r = (eqb r (byte "D") || eqb r (byte "N")) || eqb r (byte "B")

abbrev pub is_glx : ℕ → Bool
is_glx r = (eqb r (byte "E") || eqb r (byte "Q")) || eqb r (byte "Z")

-- what was found so far with another residue
abbrev pub mixed_with : ℕ → ℕ → ℕ
mixed_with found x = if is_asx found && is_asx x then byte "B" else if is_glx found && is_glx x then byte "Z" else residue_x

-- a residue beside what was found so far; 0 is none yet
abbrev pub joined : ℕ → ℕ → ℕ
joined found x = if eqb found 0 then x else if eqb x found then found else mixed_with found x
