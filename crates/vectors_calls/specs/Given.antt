-- The bounds, the table, the edit and the exceptions that a line gives.
use Rattle.std.specs.Prelude.{ℕ, zero, suc, ◌+◌, ◌-◌, ◌*◌, min, List, [], ◌∷◌, ◌++◌, eqb, get_or, replicate, if◌then◌else◌}
use Rattle.rules.specs.declared.Cds.{Cds}
use Rattle.rules.specs.declared.Edit.{Edit}
use Rattle.rules.specs.declared.Exception.{Exception}
use Rattle.rules.specs.declared.Exceptions.{Exceptions}
use Rattle.rules.specs.Bytes.{byte}
use Rattle.rules.specs.Translation.{no_exception}
use Rattle.vectors_calls.specs.Fields.{field_at, number_at, position_in, kind_in}

unfoldable pub cds_in : List ℕ → Cds
cds_in line = record { cs = number_at 1 line; ce = number_at 2 line; table = number_at 3 line; end = 0 }

unfoldable pub edit_in : List ℕ → Edit
edit_in line = record { kind = kind_in (field_at 4 line); start = position_in (field_at 5 line); end = position_in (field_at 6 line) }

-- by rule: for codons 1, 2, 3 and so on, but the last of so many for a codon of its own, all with one residue; a number above four bytes is
-- their largest
unfoldable pub by_rule : List ℕ → ℕ → ℕ → Exception
by_rule line count i =
    record { codon = min (if eqb (i + 1) count then number_at 13 line else (i + 1)) 4294967295; residue = get_or (field_at 12 line) 0 0 }

-- listed: a codon and a residue, each a field, from the field `first` on
unfoldable pub listed : List ℕ → ℕ → ℕ → Exception
listed line first i = record { codon = min (number_at (first + 2 * i) line) 4294967295; residue = get_or (field_at (first + 2 * i + 1) line) 0 0 }

-- the field where they are listed: those whose residue is `-`; the others go by rule
unfoldable pub listed_from : List ℕ → ℕ
listed_from line = if eqb (get_or (field_at 12 line) 0 0) (byte "-") then 18 else 0

-- number i, counted from 0: by rule where `first` is 0
unfoldable pub exception_at : List ℕ → ℕ → ℕ → ℕ → Exception
exception_at line first count i = if eqb first 0 then by_rule line count i else listed line first i

-- n of them, from number i on
unfoldable pub exceptions_from : List ℕ → ℕ → ℕ → ℕ → ℕ → List Exception
exceptions_from line first count i zero = []
exceptions_from line first count i (suc n) = exception_at line first count i ∷ exceptions_from line first count (suc i) n

-- at most sixteen of them fit
unfoldable pub exceptions_of : List ℕ → ℕ → ℕ → Exceptions
exceptions_of line first count =
    record {
      all = exceptions_from line first count 0 (min count 16) ++ replicate (16 - min count 16) no_exception;
      count = count;
    }
