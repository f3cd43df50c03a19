-- What the lengths of contents are refused with.
use Rattle.std.specs.Prelude.{ℕ, Bool, ◌&&◌, ◌||◌, not, [], ◌∷◌, eqb, ltb, if◌then◌else◌}
use Rattle.rules.specs.declared.Part.{Part}
use Rattle.rules.specs.Bytes.{◌↯◌, first_number}
use Rattle.stored_places.specs.declared.Places.{Places}

-- there is a field, of a tag whose contents aren't empty
abbrev pub is_there : Part → Bool
is_there p = not (eqb p.len 0)

-- a letter field begun before the last was full
abbrev pub is_early : Part → Part → Bool
is_early last p = is_there p && not (eqb last.len 65535)

-- 22, then 25, by the lengths of contents
unfoldable pub places_refusal : Places → ℕ
places_refusal p =
    first_number ((not (is_there p.bounds || is_there p.wide) || not (is_there p.table)) ↯ 22
    ∷ ((if is_there p.second || ltb 16384 p.letters.len then is_there p.bounds else is_there p.wide) || is_early p.letters p.second || is_early p.second p.third) ↯ 25
    ∷ [])
