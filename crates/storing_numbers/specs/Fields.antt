-- Fields as the form has them.
use Rattle.std.specs.Prelude.{ℕ, List, [], ◌++◌, Bool, if◌then◌else◌}
use Rattle.rules.specs.declared.Cds.{Cds}
use Rattle.rules.specs.Bytes.{is_none}
use Rattle.rules.specs.Stored.{Tagged}
use Rattle.rules.specs.Storing.{in_two, in_four, tagged, field_bytes}

-- the bytes of a field, and none where it is empty
unfoldable pub one_field : Tagged → List ℕ
one_field f = if is_none f.content then [] else field_bytes f

-- bounds in tag 2, by whether L is above 16,384, and in tag 7
abbrev pub narrow_bounds : Bool → Cds → Tagged
narrow_bounds long c = tagged 2 (if long then [] else (in_two c.cs ++ in_two c.ce))

abbrev pub wide_bounds : Bool → Cds → Tagged
wide_bounds long c = tagged 7 (if long then (in_four c.cs ++ in_four c.ce) else [])
