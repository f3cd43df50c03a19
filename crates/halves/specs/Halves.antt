-- Tests of a byte's two halves. Assumes nothing: these are definitions.
use Rattle.std.specs.Prelude.{ℕ, ◌/◌, ◌%◌, Bool, ◌&&◌, ◌==◌}
use Rattle.rules.specs.Packed.{letter_of}

-- the letters of both halves of a byte pass
unfoldable pub are_pair : (ℕ → Bool) → ℕ → Bool
are_pair p b = p (letter_of (b / 16 % 16)) && p (letter_of (b % 16))

-- that of the high half passes, and the low half is spare and zero
unfoldable pub is_last : (ℕ → Bool) → ℕ → Bool
is_last p b = p (letter_of (b / 16 % 16)) && b % 16 == 0
