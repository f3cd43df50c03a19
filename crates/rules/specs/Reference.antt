-- "Reference": letters, bounds, table, exceptions and how the CDS ends, and the reference protein R.
use Rattle.std.specs.Prelude.{ℕ, ◌+◌, ◌-◌, ◌/◌, ◌%◌, List, [], ◌∷◌, Bool, true, ◌&&◌, ◌||◌, not, eqb, leb, ltb, length, take, drop, get_or, if◌then◌else◌}
use Rattle.rules.specs.declared.Exception.{Exception}
use Rattle.rules.specs.Bytes.{byte, all, count, Test, ◌↯◌}
use Rattle.rules.specs.Letters.{is_letter}
use Rattle.rules.specs.Codons.{is_table}
use Rattle.rules.specs.Translation.{translated, is_residue}

pub record Reference : Type 0 where
  pub letters : List ℕ
  pub cs : ℕ
  pub ce : ℕ
  pub table : ℕ
  pub exceptions : List Exception
  pub end : ℕ

-- how a CDS ends: at a stop, without one, or in one or two bases of a codon; any other number is an unknown end
abbrev pub at_stop : ℕ
at_stop = 0

abbrev pub no_stop : ℕ
no_stop = 1

abbrev pub cut_codon : ℕ
cut_codon = 2

-- a known end, and not at a stop
unfoldable pub is_short_end : ℕ → Bool
is_short_end end = eqb end no_stop || eqb end cut_codon

-- L
unfoldable pub size : Reference → ℕ
size r = length r.letters

-- L bases, 1 to `longest`
unfoldable pub is_size : ℕ → ℕ → Bool
is_size longest n = leb 1 n && leb n longest

-- ce-cs+1
unfoldable pub cds_size : Reference → ℕ
cds_size r = r.ce + 1 - r.cs

-- n is divisible by 3; for a cut codon it isn't
unfoldable pub fits_end : ℕ → ℕ → Bool
fits_end end n = if eqb end cut_codon then not (eqb (n % 3) 0) else eqb (n % 3) 0

-- 1 <= cs <= ce <= L; ce-cs+1 fits the end and is at least 6
unfoldable pub are_bounds : Reference → Bool
are_bounds r =
    leb 1 r.cs && leb r.cs r.ce && leb r.ce (size r) && fits_end r.end (cds_size r) && leb 6 (cds_size r)

unfoldable pub cds : Reference → List ℕ
cds r = take (cds_size r) (drop (r.cs - 1) r.letters)

-- the number of whole CDS codons
unfoldable pub codons : Reference → ℕ
codons r = cds_size r / 3

-- each a codon number above `last` and at most `most`, strictly rising, and a residue A to Z or `*`
unfoldable pub are_rising : ℕ → ℕ → List Exception → Bool
are_rising last most [] = true
are_rising last most (e ∷ es) =
    ltb last e.codon && leb e.codon most && is_residue e.residue && are_rising e.codon most es

-- at most 16, each a codon number from 1 to the number of whole CDS codons
unfoldable pub fit_exceptions : Reference → Bool
fit_exceptions r = leb (length r.exceptions) 16 && are_rising 0 (codons r) r.exceptions

-- R is the CDS's residues, with X for the rest
unfoldable pub reference_protein : Reference → List ℕ
reference_protein r = translated r.table r.exceptions (cds r)

-- the last CDS codon, exceptions applied, reads `*`
unfoldable pub ends_in_stop : Reference → Bool
ends_in_stop r = eqb (get_or (reference_protein r) (codons r - 1) 0) (byte "*")

-- the last two need ce = L and no `*` in R
unfoldable pub is_cut_short : Reference → Bool
is_cut_short r = is_short_end r.end && eqb r.ce (size r) && eqb (count (byte "*") (reference_protein r)) 0

-- 1 to 5, then 6 for an end at a stop and 28 for the others
unfoldable pub reference_tests : ℕ → Reference → List Test
reference_tests longest r =
    not (is_size longest (size r)) ↯ 1
    ∷ not (all is_letter r.letters) ↯ 2
    ∷ not (are_bounds r) ↯ 3
    ∷ not (is_table r.table) ↯ 4
    ∷ not (fit_exceptions r) ↯ 5
    ∷ (eqb r.end at_stop && not (ends_in_stop r)) ↯ 6
    ∷ (not (eqb r.end at_stop) && not (is_cut_short r)) ↯ 28
    ∷ []
