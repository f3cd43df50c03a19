-- E1, "Write the stored reference": the bytes of fields, the fields of a reference, and what a call that writes one answers.
use Rattle.std.specs.Prelude.{ℕ, ◌/◌, ◌%◌, List, [], ◌∷◌, ◌++◌, Bool, eqb, ltb, length, take, drop, if◌then◌else◌}
use Rattle.rules.specs.declared.Exception.{Exception}
use Rattle.rules.specs.Bytes.{is_none, each, Test, ◌↯◌, first_number, Result, unless}
use Rattle.rules.specs.Reference.{Reference, at_stop, size, reference_tests}
use Rattle.rules.specs.Stored.{Tagged}

-- a number in two bytes, high byte first
unfoldable pub in_two : ℕ → List ℕ
in_two n = n / 256 ∷ n % 256 ∷ []

-- a number in four bytes, high byte first
unfoldable pub in_four : ℕ → List ℕ
in_four n = in_two (n / 65536) ++ in_two (n % 65536)

-- a field: one-byte tag, two-byte length (high byte first), content
unfoldable pub field_bytes : Tagged → List ℕ
field_bytes f = (f.tag ∷ in_two (length f.content)) ++ f.content

-- fields, one behind the other
unfoldable pub fields_bytes : List Tagged → List ℕ
fields_bytes fs = each field_bytes fs

-- codon, two bytes; residue
unfoldable pub exception_bytes : Exception → List ℕ
exception_bytes e = in_two e.codon ++ (e.residue ∷ [])

-- L is above 16,384
unfoldable pub is_long : Reference → Bool
is_long r = ltb 16384 (size r)

abbrev pub tagged : ℕ → List ℕ → Tagged
tagged tag content = record { tag = tag; content = content }

-- what each tag holds, and nothing where it isn't used: letters beyond 65,535 go on in tag 5 and then tag 6; bounds take four bytes each in
-- tag 7 in place of tag 2 exactly if L is above 16,384; tag 8 tells an end that isn't at a stop
unfoldable pub held_by : Reference → List Tagged
held_by r =
    tagged 1 (take 65535 r.letters)
    ∷ tagged 2 (if is_long r then [] else (in_two r.cs ++ in_two r.ce))
    ∷ tagged 3 (r.table ∷ [])
    ∷ tagged 4 (each exception_bytes r.exceptions)
    ∷ tagged 5 (take 65535 (drop 65535 r.letters))
    ∷ tagged 6 (drop 131070 r.letters)
    ∷ tagged 7 (if is_long r then (in_four r.cs ++ in_four r.ce) else [])
    ∷ tagged 8 (if eqb r.end at_stop then [] else (r.end ∷ []))
    ∷ []

-- an empty field is never written
unfoldable pub filled : List Tagged → List Tagged
filled [] = []
filled (f ∷ fs) = if is_none f.content then filled fs else (f ∷ filled fs)

unfoldable pub reference_fields : Reference → List Tagged
reference_fields r = filled (held_by r)

-- a reference in the stored form
unfoldable pub stored_form : Reference → List ℕ
stored_form r = fields_bytes (reference_fields r)

-- 1 to 5, 6 or 28, then 24: the buffer, `room` bytes long, is too short for the form
unfoldable pub write_tests : ℕ → Reference → ℕ → List Test
write_tests longest r room = reference_tests longest r ++ (ltb room (length (stored_form r)) ↯ 24 ∷ [])

-- the form that is written, or the one refusal; `longest` is refusal 1's limit
unfoldable pub written_reference : ℕ → Reference → ℕ → Result (List ℕ)
written_reference longest r room = unless (first_number (write_tests longest r room)) (stored_form r)
