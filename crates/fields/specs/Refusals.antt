-- What one field is refused with, and what a reading of all fields tells: its number, or its fields.
use Rattle.std.specs.Prelude.{ℕ, List, [], if◌then◌else◌}
use Rattle.rules.specs.Bytes.{Result, given, refused}
use Rattle.rules.specs.Record.{part_of}
use Rattle.rules.specs.Stored.{Form, is_wrong_tag, is_wrong_content, Tagged}
use Rattle.fields.specs.declared.reader.Field.{Field}
use Rattle.fields.specs.declared.reader.Field.TheVariants.{Whole, Cut, End}

-- in one field 21 before 20 before 23; 0 where none applies
unfoldable pub field_refusal : Form → ℕ → List ℕ → Field → ℕ
field_refusal form last s End = 0
field_refusal form last s (Cut tag) = if is_wrong_tag form last tag then 21 else 20
field_refusal form last s (Whole tag p) =
    if is_wrong_tag form last tag then 21 else if is_wrong_content form tag (part_of p s) then 23 else 0

-- the refusal's number, and 0 where there is none
unfoldable pub refusal_in : Result (List Tagged) → ℕ
refusal_in (given fs) = 0
refusal_in (refused n) = n

-- the fields, and none where they are refused
unfoldable pub tagged_in : Result (List Tagged) → List Tagged
tagged_in (given fs) = fs
tagged_in (refused n) = []
