-- Several bytes of a string as one number.
use Rattle.std.specs.Prelude.{ℕ, ◌+◌, ◌*◌, List, get_or}

-- four bytes from place k on as one number, the first lowest, and eight
abbrev pub four_at : List ℕ → ℕ → ℕ
four_at s k = get_or s k 0 + get_or s (k + 1) 0 * 256 + get_or s (k + 2) 0 * 65536 + get_or s (k + 3) 0 * 16777216

abbrev pub eight_at : List ℕ → ℕ → ℕ
eight_at s k = four_at s k + four_at s (k + 4) * 4294967296
