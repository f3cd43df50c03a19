-- The exceptions that bytes store, as the value that calls take.
use Rattle.std.specs.Prelude.{ℕ, ◌+◌, ◌*◌, ◌%◌, List, ◌++◌, eqb, leb, length, drop, get_or, replicate, if◌then◌else◌}
use Rattle.rules.specs.declared.Exception.{Exception}
use Rattle.rules.specs.declared.Exceptions.{Exceptions}
use Rattle.rules.specs.Translation.{no_exception}
use Rattle.rules.specs.Stored.{two_bytes, exceptions_in}

-- exception i, counted from 0
abbrev pub exception_at : List ℕ → ℕ → Exception
exception_at s i = record { codon = two_bytes (get_or s (i * 3) 0) (get_or s (i * 3 + 1) 0); residue = get_or s (i * 3 + 2) 0 }

-- the first of sixteen
unfoldable pub held : List Exception → Exceptions
held es = record { all = es ++ drop (length es) (replicate 16 no_exception); count = length es }

-- so many, and none of them held
unfoldable pub counted : ℕ → Exceptions
counted n = record { all = replicate 16 no_exception; count = n }

-- at most sixteen are held; bytes that aren't three each count as seventeen
unfoldable pub exceptions_of : List ℕ → Exceptions
exceptions_of s =
    if eqb (length s % 3) 0 then (if leb (length (exceptions_in s)) 16 then held (exceptions_in s) else counted (length (exceptions_in s)))
    else counted 17
