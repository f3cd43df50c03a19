-- A in three parts.
use Rattle.std.specs.Prelude.{List, ◌++◌, ℕ, ◌+◌, ◌-◌, ◌≤◌, ◌<◌, length, take, drop}

-- the first `head` residues of R, others, and R from residue `back` on
unfoldable pub joined : ℕ → ℕ → List ℕ → List ℕ → List ℕ
joined head back R M = take head R ++ (M ++ drop back R)

-- the parts follow each other in R, and A's length fits
pub record Joins (head back : ℕ) (R M : List ℕ) : Type 0 where
  pub follows : head ≤ back
  pub within : back ≤ length R
  pub short : head + length M + (length R - back) < 8589934592
