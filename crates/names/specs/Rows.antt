-- The table of residue names: 25 rows of four bytes, the letter and then the three.
use Rattle.std.specs.Prelude.{ℕ, ◌+◌, ◌*◌, List, ◌∷◌, Bool, not, take, drop}
use Rattle.rules.specs.Bytes.{is_none, each}
use Rattle.rules.specs.Names.{names, three_of, one_of}

unfoldable pub table : List ℕ
table = each (λ n. n.one ∷ n.three) names

-- the three of row k, and the one: nothing past the table
abbrev pub three_at : ℕ → List ℕ
three_at k = take 3 (drop (k * 4 + 1) table)

abbrev pub one_at : ℕ → List ℕ
one_at k = take 1 (drop (k * 4) table)

-- a residue that has a name, and a name that has a residue
abbrev pub is_one : ℕ → Bool
is_one r = not (is_none (three_of r))

abbrev pub is_three : List ℕ → Bool
is_three s = not (is_none (one_of s))
