-- What a host is told of a stored reference: its numbers and where its letters and its exceptions stand, or a refusal's number and nothing else.
use Rattle.std.specs.Prelude.{ℕ, ◌+◌, Bool, List, if◌then◌else◌}
use Rattle.rules.specs.declared.Part.{Part}
use Rattle.rules.specs.Bytes.{Result, given, refused}
use Rattle.rules.specs.Reference.{Reference, size}
use Rattle.rules.specs.Refusal.{limits}
use Rattle.rules.specs.Stored.{reference_form, fields, is_joined, read_reference}
use Rattle.rules.specs.Values.{flag_number}
use Rattle.fields.specs.Places.{content_at, part_or_empty}
use Rattle.stored_fields.specs.declared.field_places.StoredAt.{StoredAt}
use Rattle.stored_fields.specs.Reading.{is_there}
use Rattle.garumbott.specs.declared.reading.GarumbottStored.{GarumbottStored}

abbrev pub refused_numbers : ℕ → GarumbottStored
refused_numbers n =
    record {
      refusal = n;
      cs = 0;
      ce = 0;
      table = 0;
      letters_at = 0;
      letters_len = 0;
      exceptions_at = 0;
      exceptions_len = 0;
      end = 0;
      joined = 0;
    }

abbrev pub placed_numbers : StoredAt → GarumbottStored
placed_numbers p =
    record {
      refusal = 0;
      cs = p.cds.cs;
      ce = p.cds.ce;
      table = p.cds.table;
      letters_at = if is_there p.second then 0 else p.letters.at;
      letters_len = p.letters.len + (p.second.len + p.third.len);
      exceptions_at = p.exceptions.at;
      exceptions_len = p.exceptions.len;
      end = p.cds.end;
      joined = flag_number (is_there p.second);
    }

-- of a reference that isn't refused, with the places of its letters and exceptions; joined letters stand at the start of their buffer
unfoldable pub numbers_by : Result Reference → Bool → Part → Part → GarumbottStored
numbers_by (refused n) joined letters exceptions = refused_numbers n
numbers_by (given r) joined letters exceptions =
    record {
      refusal = 0;
      cs = r.cs;
      ce = r.ce;
      table = r.table;
      letters_at = if joined then 0 else letters.at;
      letters_len = size r;
      exceptions_at = exceptions.at;
      exceptions_len = exceptions.len;
      end = r.end;
      joined = flag_number joined;
    }

-- the letters are the content of tag 1, or joined, the exceptions the content of tag 4; where there is none, 0 bytes at 0
unfoldable pub stored_numbers : ℕ → List ℕ → GarumbottStored
stored_numbers room s =
    numbers_by (read_reference limits.longest room s) (is_joined (fields reference_form s)) (part_or_empty (content_at 1 s)) (part_or_empty (content_at 4 s))
