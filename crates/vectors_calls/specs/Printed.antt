-- What is printed of a buffer: a check value of the bytes written, and whether those behind them stayed.
use Rattle.std.specs.Prelude.{ℕ, ◌+◌, ◌*◌, ◌%◌, List, [], ◌∷◌, Bool, eqb}
use Rattle.rules.specs.Bytes.{byte, all}

-- of bytes in their order, behind the value x
unfoldable pub check_from : ℕ → List ℕ → ℕ
check_from x [] = x
check_from x (b ∷ s) = check_from ((x * 31 + b) % 1000003) s

unfoldable pub check_value : List ℕ → ℕ
check_value s = check_from 0 s

-- the marker that a buffer holds before a call
abbrev pub is_marker : ℕ → Bool
is_marker b = eqb b (byte ".")

unfoldable pub are_markers : List ℕ → Bool
are_markers s = all is_marker s
