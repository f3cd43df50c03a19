-- What a test in the code answers.
use Rattle.std.specs.Prelude.{ℕ, Bool, ◌≡◌, ◌<◌}

-- each answer that the test may give at a byte is p's
abbrev pub Computes : (ℕ → Bool → Type 0) → (ℕ → Bool) → Type 0
Computes gives p = (b : ℕ) (r : Bool) → b < 256 → gives b r → r ≡ p b
