-- Fields and contents by their places in the caller's bytes.
use Rattle.std.specs.Prelude.{ℕ, zero, suc, ◌+◌, ◌≤◌, ◌≡◌, List, [], ◌∷◌, Option, None, Some, eqb, length, drop, if◌then◌else◌}
use Rattle.rules.specs.declared.Part.{Part}
use Rattle.rules.specs.Stored as stored
use Rattle.rules.specs.Stored.{Tagged}
use Rattle.fields.specs.declared.reader.Field.{Field}
use Rattle.fields.specs.declared.reader.Field.TheVariants.{Whole, Cut, End}

-- a field that begins at a place: its content stands behind the tag and the two bytes of the length
unfoldable pub placed : ℕ → stored.Field → Field
placed at stored.ended = End
placed at (stored.cut tag) = Cut tag
placed at (stored.whole tag content rest) = Whole tag (record { at = at + 3; len = length content })

-- the field at a place of the bytes
abbrev pub field_at : List ℕ → ℕ → Field
field_at s at = placed at (stored.field (drop at s))

-- the content of a whole field stands within the bytes
abbrev pub Within : List ℕ → Field → Type 0
Within s f = (tag : ℕ) (p : Part) → f ≡ Whole tag p → p.at + p.len ≤ length s

-- a whole field, and those that the bytes behind it give
unfoldable pub whole_then : stored.Field → (List ℕ → List Tagged) → List Tagged
whole_then stored.ended more = []
whole_then (stored.cut tag) more = []
whole_then (stored.whole tag content rest) more = record { tag = tag; content = content } ∷ more rest

-- the whole fields that bytes begin with, whatever their tags; `fuel` is at least their number
unfoldable pub whole_from : ℕ → List ℕ → List Tagged
whole_from zero s = []
whole_from (suc fuel) s = whole_then (stored.field s) (λ rest. whole_from fuel rest)

abbrev pub whole_fields : List ℕ → List Tagged
whole_fields s = whole_from (length s) s

-- where the content of a tag stands among fields one behind the other, the first of which begins at a place
unfoldable pub place_of : ℕ → ℕ → List Tagged → Option Part
place_of t at [] = None
place_of t at (f ∷ fs) =
    if eqb f.tag t then Some (record { at = at + 3; len = length f.content })
    else place_of t (at + 3 + length f.content) fs

-- and in the bytes
abbrev pub content_at : ℕ → List ℕ → Option Part
content_at t s = place_of t 0 (whole_fields s)

-- 0 bytes at 0 where there is none
unfoldable pub part_or_empty : Option Part → Part
part_or_empty (Some p) = p
part_or_empty None = record { at = 0; len = 0 }
