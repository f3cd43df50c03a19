-- The length of the stored form.
use Rattle.std.specs.Prelude.{ℕ, ◌+◌, ◌*◌, ltb, if◌then◌else◌}

-- the length of the form: tags 1, 2 and 3 take 14 bytes beside the letters, tag 7 four more than tag 2, and every other field three beside
-- its content
unfoldable pub form_length : ℕ → ℕ → ℕ → ℕ
form_length size count end =
    size + 14 + (if ltb 16384 size then 4 else 0) + (if ltb 0 count then (3 + 3 * count) else 0) + (if ltb 65535 size then 3 else 0)
    + (if ltb 131070 size then 3 else 0)
    + (if ltb 0 end then 4 else 0)
