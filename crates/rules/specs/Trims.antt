-- "Letters and codons": a trim answers the number of equal first, or equal last, bytes of two byte strings.
use Rattle.std.specs.Prelude.{ℕ, suc, List, [], ◌∷◌, reverse, eqb, if◌then◌else◌}

unfoldable pub common_prefix : List ℕ → List ℕ → ℕ
common_prefix [] ys = 0
common_prefix (x ∷ xs) [] = 0
common_prefix (x ∷ xs) (y ∷ ys) = if eqb x y then suc (common_prefix xs ys) else 0

unfoldable pub common_suffix : List ℕ → List ℕ → ℕ
common_suffix xs ys = common_prefix (reverse xs) (reverse ys)
