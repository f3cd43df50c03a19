-- "Letters and codons": translation of a byte string, with exceptions.
use Rattle.std.specs.Prelude.{ℕ, suc, ◌+◌, ◌-◌, ◌/◌, ◌%◌, List, [], ◌∷◌, ◌++◌, map, Bool, ◌&&◌, ◌||◌, not, eqb, leb, ltb, length, take, replicate, if◌then◌else◌}
use Rattle.rules.specs.declared.Exception.{Exception}
use Rattle.rules.specs.declared.Exceptions.{Exceptions}
use Rattle.rules.specs.Bytes.{byte, all, is_capital, Test, ◌↯◌, first_number, Result, unless}
use Rattle.rules.specs.Letters.{is_letter, folded}
use Rattle.rules.specs.Codons.{is_table, residue_x, codon}

-- what stands behind the sixteen
abbrev pub no_exception : Exception
no_exception = record { codon = 0; residue = 0 }

abbrev pub no_exceptions : Exceptions
no_exceptions = record { all = replicate 16 no_exception; count = 0 }

-- the exceptions given: the first `count`. A count above sixteen gives a list of that length, which breaks the rules
unfoldable pub exception_list : Exceptions → List Exception
exception_list e = take e.count (e.all ++ replicate e.count no_exception)

-- the residue of codon n: r, unless an exception replaces it, the last one counting
unfoldable pub excepted : List Exception → ℕ → ℕ → ℕ
excepted [] n r = r
excepted (e ∷ es) n r = excepted es n (if eqb e.codon n then e.residue else r)

-- one residue a whole codon, the first of them number n, then one X if one or two bytes remain
unfoldable pub residues_from : ℕ → List Exception → ℕ → List ℕ → List ℕ
residues_from table es n [] = []
residues_from table es n (a ∷ []) = residue_x ∷ []
residues_from table es n (a ∷ b ∷ []) = residue_x ∷ []
residues_from table es n (a ∷ b ∷ c ∷ s) = excepted es n (codon table a b c) ∷ residues_from table es (suc n) s

unfoldable pub translated : ℕ → List Exception → List ℕ → List ℕ
translated table es s = residues_from table es 1 s

-- the residues of n bases: one a whole codon, one for a rest
unfoldable pub residue_count : ℕ → ℕ
residue_count n = (n + 2) / 3

-- the number of residues before the first `*`, or of all
unfoldable pub before_stop : List ℕ → ℕ
before_stop [] = 0
before_stop (r ∷ rs) = if eqb r (byte "*") then 0 else suc (before_stop rs)

-- through the first `*`; with none, to the end
unfoldable pub through_stop : List ℕ → List ℕ
through_stop [] = []
through_stop (r ∷ rs) = if eqb r (byte "*") then r ∷ [] else (r ∷ through_stop rs)

-- A to Z or `*`
unfoldable pub is_residue : ℕ → Bool
is_residue r = is_capital r || eqb r (byte "*")

-- at most 16, codon numbers from 1 in any order, residues A to Z or `*`
unfoldable pub are_exceptions : List Exception → Bool
are_exceptions es = leb (length es) 16 && all (λ (e : Exception). leb 1 e.codon && is_residue e.residue) es

unfoldable pub whole_codons : List ℕ → List ℕ
whole_codons s = take (length s - length s % 3) s

-- any other byte in a whole codon is refused; a remaining byte is not looked at
unfoldable pub fold_to_letters : List ℕ → Bool
fold_to_letters s = all is_letter (map folded (whole_codons s))

unfoldable pub folded_translated : ℕ → List Exception → List ℕ → List ℕ
folded_translated table es s = translated table es (map folded s)

-- 4, then 5, 14, 15, 2
unfoldable pub translation_tests : ℕ → List Exception → Bool → List ℕ → ℕ → List Test
translation_tests table es full s room =
    not (is_table table) ↯ 4
    ∷ not (are_exceptions es) ↯ 5
    ∷ (full && ltb 0 (length s % 3)) ↯ 14
    ∷ ltb room (length (folded_translated table es s)) ↯ 15
    ∷ not (fold_to_letters s) ↯ 2
    ∷ []

-- plain translation, with full codons demanded or not, into a buffer with so much room
unfoldable pub translation : ℕ → List Exception → Bool → List ℕ → ℕ → Result (List ℕ)
translation table es full s room = unless (first_number (translation_tests table es full s room)) (folded_translated table es s)
