-- The fields of a line, counted from 0, one space between them. One that isn't there is empty, and an empty number is 0.
use Rattle.std.specs.Prelude.{ℕ, zero, suc, ◌+◌, ◌-◌, ◌*◌, List, [], ◌∷◌, eqb, leb, take, drop, get_or, if◌then◌else◌}
use Rattle.rules.specs.declared.Kind.{Kind}
use Rattle.rules.specs.declared.Kind.TheVariants.{Substitution, Deletion, Delins, Insertion, Duplication, Inversion, Identity, Other}
use Rattle.rules.specs.declared.Position.{Position}
use Rattle.rules.specs.Bytes.{byte}
use Rattle.rules.specs.Number.{is_digit}
use Rattle.text_forms.specs.Views.{signs, signed}

-- how many bytes stand before the first b, or how many there are
unfoldable pub before : ℕ → List ℕ → ℕ
before b [] = 0
before b (x ∷ s) = if eqb x b then 0 else suc (before b s)

-- the line from field k on
unfoldable pub field_at : ℕ → List ℕ → List ℕ
field_at zero s = s
field_at (suc k) s = field_at k (drop (before (byte " ") s + 1) s)

-- field k alone
unfoldable pub word_at : ℕ → List ℕ → List ℕ
word_at k s = take (before (byte " ") (field_at k s)) (field_at k s)

-- the largest number
abbrev pub largest : ℕ
largest = 18446744073709551615

-- a number with a digit behind it; the largest one where there may be no room for it
unfoldable pub with_digit : ℕ → ℕ → ℕ
with_digit n d = if leb n 1844674407370955160 then n * 10 + d else largest

-- the number whose digits the bytes begin with, behind the number n
unfoldable pub number_from : ℕ → List ℕ → ℕ
number_from n [] = n
number_from n (b ∷ s) = if is_digit b then number_from (with_digit n (b - byte "0")) s else n

unfoldable pub number_in : List ℕ → ℕ
number_in s = number_from 0 s

unfoldable pub number_at : ℕ → List ℕ → ℕ
number_at k s = number_in (field_at k s)

-- a position by its sign: `7`, `-2`, `*3`
unfoldable pub position_in : List ℕ → Position
position_in f = signed (get_or f 0 0) (number_in (drop (signs (get_or f 0 0)) f))

-- sub, del, delins, ins, dup, inv and same by their third letter, and del and delins by the fourth
unfoldable pub kind_by : ℕ → ℕ → Kind
kind_by third fourth =
    if eqb third (byte "b") then Substitution
    else if eqb third (byte "l") then (if eqb fourth (byte "i") then Delins else Deletion)
    else if eqb third (byte "s") then Insertion
    else if eqb third (byte "p") then Duplication
    else if eqb third (byte "v") then Inversion
    else if eqb third (byte "m") then Identity
    else Other

unfoldable pub kind_in : List ℕ → Kind
kind_in f = kind_by (get_or f 2 0) (get_or f 3 0)
