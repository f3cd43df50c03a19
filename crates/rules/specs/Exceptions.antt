-- "Positions and edits": exceptions move.
use Rattle.std.specs.Prelude.{ℕ, ◌+◌, ◌-◌, ◌*◌, ◌/◌, ◌%◌, List, [], ◌∷◌, ◌++◌, Bool, ◌&&◌, eqb, leb, length, drop, if◌then◌else◌}
use Rattle.rules.specs.declared.Exception.{Exception}
use Rattle.rules.specs.Trims.{common_prefix, common_suffix}
use Rattle.rules.specs.Reference.{Reference}

-- the longest common suffix that doesn't overlap the common prefix
unfoldable pub suffix_behind : ℕ → List ℕ → List ℕ → ℕ
suffix_behind prefix old new = common_suffix (drop prefix old) (drop prefix new)

-- a codon wholly in the prefix; `at` is the index where the codon begins
unfoldable pub in_prefix : ℕ → ℕ → Bool
in_prefix prefix at = leb (at + 3) prefix

-- a codon wholly in the suffix
unfoldable pub in_suffix : ℕ → ℕ → List ℕ → List ℕ → Bool
in_suffix prefix at old new = leb (length old - suffix_behind prefix old new) at

-- moved by the length change
unfoldable pub shifted : ℕ → List ℕ → List ℕ → ℕ
shifted at old new = at + length new - length old

-- it lands in frame; `first` is cs-1
unfoldable pub in_frame : ℕ → ℕ → Bool
in_frame first at = eqb (at % 3) (first % 3)

-- the index of codon n of the CDS, and the number of the codon at an index
unfoldable pub codon_index : ℕ → ℕ → ℕ
codon_index first n = first + 3 * (n - 1)

unfoldable pub codon_number : ℕ → ℕ → ℕ
codon_number first at = (at - first) / 3 + 1

-- a codon wholly in the prefix stays; one wholly in the suffix moves by the length change if it lands in frame; the others are dropped
unfoldable pub moved_one : ℕ → ℕ → List ℕ → List ℕ → Exception → List Exception
moved_one prefix first old new e =
    let at = codon_index first e.codon in
    let to = shifted at old new in
    let moved : Exception = record { codon = codon_number first to; residue = e.residue } in
    if in_prefix prefix at then e ∷ []
    else if in_suffix prefix at old new && in_frame first to then moved ∷ []
    else []

unfoldable pub moved_all : ℕ → ℕ → List ℕ → List ℕ → List Exception → List Exception
moved_all prefix first old new [] = []
moved_all prefix first old new (e ∷ es) = moved_one prefix first old new e ++ moved_all prefix first old new es

-- with the longest common prefix of the old and new transcript
unfoldable pub moved_exceptions : Reference → List ℕ → List Exception
moved_exceptions r new = moved_all (common_prefix r.letters new) (r.cs - 1) r.letters new r.exceptions
