-- E12, "Settings that survive an update": each bench keeps its default table, profile on or off, and output width of residue names in stored fields.
use Rattle.std.specs.Prelude.{ℕ, List, [], ◌∷◌, ◌++◌, Bool, ◌&&◌, ◌||◌, not, eqb, leb, ltb, length, get_or, if◌then◌else◌}
use Rattle.std.proofs.Math.Option.{Option, none, some}
use Rattle.rules.specs.declared.Settings.{Settings}
use Rattle.std.specs.Prelude.{Result as Returned, Ok, Err}
use Rattle.rules.specs.declared.Unread.{Unread}
use Rattle.rules.specs.declared.Unread.TheVariants as unread
use Rattle.rules.specs.Bytes.{is_none, Test, ◌↯◌, first_number, Result, unless}
use Rattle.rules.specs.Codons.{is_table}
use Rattle.rules.specs.Refusal.{limits}
use Rattle.rules.specs.Refusals.{refusal_number}
use Rattle.rules.specs.Stored.{two_bytes, Field, ended, cut, whole, field, Tagged}
use Rattle.rules.specs.Storing.{in_two, fields_bytes}

-- versions 1 and 2
unfoldable pub is_version : ℕ → Bool
is_version v = leb 1 v && leb v 2

-- version 2 adds tag 5, the longest edit
unfoldable pub has_longest : ℕ → Bool
has_longest v = eqb v 2

-- a first field of tag 1, one byte
unfoldable pub version_of : Field → Option ℕ
version_of ended = none
version_of (cut tag) = none
version_of (whole tag content rest) = if eqb tag 1 && eqb (length content) 1 then some (get_or content 0 0) else none

-- the fields of a version in their order, the length of its content beside each tag: 1 version, 2 table, 3 profile, 4 width, one byte each;
-- 5 longest edit, two bytes
unfoldable pub layout : ℕ → List (ℕ × ℕ)
layout v = (1, 1) ∷ (2, 1) ∷ (3, 1) ∷ (4, 1) ∷ (if has_longest v then (5, 2) ∷ [] else [])

unfoldable pub with_content : List ℕ → Option (List ℕ) → Option (List ℕ)
with_content content none = none
with_content content (some s) = some (content ++ s)

-- a whole field of that tag and length; `more` is what the bytes behind it give
unfoldable pub content_by : ℕ × ℕ → Field → (List ℕ → Option (List ℕ)) → Option (List ℕ)
content_by f ended more = none
content_by f (cut tag) more = none
content_by f (whole tag content rest) more =
    if eqb tag f.0 && eqb (length content) f.1 then with_content content (more rest) else none

-- the contents of exactly these fields, in a row; none where a field is missing, cut off, extra, out of order or of wrong length
unfoldable pub contents_in : List (ℕ × ℕ) → List ℕ → Option (List ℕ)
contents_in [] s = if is_none s then some [] else none
contents_in (f ∷ fs) s = content_by f (field s) (λ rest. contents_in fs rest)

-- the settings that contents hold; a version 1 store reads as longest edit 4,096
unfoldable pub settings_in : List ℕ → Settings
settings_in s =
    record {
      version = get_or s 0 0;
      table = get_or s 1 0;
      profile = get_or s 2 0;
      width = get_or s 3 0;
      longest = if has_longest (get_or s 0 0) then two_bytes (get_or s 4 0) (get_or s 5 0) else limits.most;
    }

-- the longest edit in bases, 1 to 4,096
unfoldable pub is_longest : ℕ → Bool
is_longest n = leb 1 n && leb n limits.most

-- table 0 to 2; profile 0 off, 1 on; width 1 or 3; the longest edit, which in version 1 is 4,096
unfoldable pub are_settings : Settings → Bool
are_settings x =
    is_table x.table
    && leb x.profile 1
    && (eqb x.width 1 || eqb x.width 3)
    && is_longest x.longest
    && (has_longest x.version || eqb x.longest limits.most)

-- what a store is read as: a refusal's number, a version newer than the reader knows, or the settings
pub data Store : Type 0 where
  Refused : ℕ → Store
  Newer : Store
  Held : Settings → Store

abbrev pub store_told : Returned Settings Unread → Store
store_told (Ok x) = Held x
store_told (Err (unread.Refused r)) = Refused (refusal_number r)
store_told (Err unread.Newer) = Newer

-- 61, then 62: a content out of range
unfoldable pub held_in : Option (List ℕ) → Store
held_in none = Refused 61
held_in (some s) = if are_settings (settings_in s) then Held (settings_in s) else Refused 62

-- 60: no version, an unknown one, or one above the newest that the reader knows, which is shown as newer; nothing behind it is looked at
unfoldable pub stored_by : ℕ → Option ℕ → List ℕ → Store
stored_by newest none s = Refused 60
stored_by newest (some v) s =
    if eqb v 0 then Refused 60
    else if ltb newest v then Newer
    else held_in (contents_in (layout v) s)

-- what a reader reads that knows the versions up to `newest`, 1 or 2; any other reads nothing: 60
unfoldable pub stored_settings : ℕ → List ℕ → Store
stored_settings newest s = if is_version newest then stored_by newest (version_of (field s)) s else Refused 60

-- document 02's number and values for each case, as a host reads them
pub record StoreValues : Type 0 where
  pub refusal : ℕ
  pub newer : ℕ
  pub version : ℕ
  pub table : ℕ
  pub profile : ℕ
  pub width : ℕ
  pub longest : ℕ

-- a newer version is 60 with a mark beside it
unfoldable pub store_values : Store → StoreValues
store_values (Refused n) = record { refusal = n; newer = 0; version = 0; table = 0; profile = 0; width = 0; longest = 0 }
store_values Newer = record { refusal = 60; newer = 1; version = 0; table = 0; profile = 0; width = 0; longest = 0 }
store_values (Held x) =
    record { refusal = 0; newer = 0; version = x.version; table = x.table; profile = x.profile; width = x.width; longest = x.longest }

-- the fields that settings are stored in
unfoldable pub settings_fields : Settings → List Tagged
settings_fields x =
    record { tag = 1; content = x.version ∷ [] }
    ∷ record { tag = 2; content = x.table ∷ [] }
    ∷ record { tag = 3; content = x.profile ∷ [] }
    ∷ record { tag = 4; content = x.width ∷ [] }
    ∷ (if has_longest x.version then record { tag = 5; content = in_two x.longest } ∷ [] else [])

unfoldable pub store_of : Settings → List ℕ
store_of x = fields_bytes (settings_fields x)

-- writing: 60, version unknown; 62, a content out of range, or a version 1 store asked for with a smaller longest edit; 63, the buffer is
-- too short for the store
unfoldable pub settings_tests : Settings → ℕ → List Test
settings_tests x room =
    not (is_version x.version) ↯ 60
    ∷ not (are_settings x) ↯ 62
    ∷ ltb room (length (store_of x)) ↯ 63
    ∷ []

-- the store, or the one refusal; `room` is the buffer's length
unfoldable pub written_settings : Settings → ℕ → Result (List ℕ)
written_settings x room = unless (first_number (settings_tests x room)) (store_of x)
