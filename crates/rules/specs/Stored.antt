-- "Stored reference": fields of a one-byte tag, a two-byte length (high byte first) and the content.
use Rattle.std.specs.Prelude.{ℕ, zero, suc, ◌+◌, ◌*◌, ◌%◌, List, [], ◌∷◌, ◌++◌, Bool, true, false, ◌&&◌, ◌||◌, not, eqb, leb, ltb, length, take, drop, get_or, if◌then◌else◌}
use Rattle.std.proofs.Math.Option.{Option, none, some}
use Rattle.rules.specs.declared.Exception.{Exception}
use Rattle.rules.specs.Bytes.{Test, ◌↯◌, first_number, Result, given, refused, unless}
use Rattle.rules.specs.Reference.{Reference, at_stop, is_short_end, size}
use Rattle.rules.specs.Refusal.{reference_refusal}

-- a number of two bytes, high byte first
unfoldable pub two_bytes : ℕ → ℕ → ℕ
two_bytes high low = 256 * high + low

-- a number of four bytes, high byte first
unfoldable pub four_bytes : ℕ → ℕ → ℕ → ℕ → ℕ
four_bytes a b c d = 65536 * two_bytes a b + two_bytes c d

-- what the bytes begin with: nothing, a field cut off, or a whole field and the bytes behind it
pub data Field : Type 0 where
  ended : Field
  cut : ℕ → Field
  whole : ℕ → List ℕ → List ℕ → Field

unfoldable pub field : List ℕ → Field
field [] = ended
field (tag ∷ []) = cut tag
field (tag ∷ high ∷ []) = cut tag
field (tag ∷ high ∷ low ∷ s) =
    if leb (two_bytes high low) (length s) then whole tag (take (two_bytes high low) s) (drop (two_bytes high low) s) else cut tag

-- a form: which tags it knows, and which content fits a tag
pub record Form : Type 0 where
  pub knows : ℕ → Bool
  pub fits : ℕ → List ℕ → Bool

-- 21: tag unknown, repeated or not rising; `last` is the tag before it
unfoldable pub is_wrong_tag : Form → ℕ → ℕ → Bool
is_wrong_tag form last tag = not (form.knows tag) || not (ltb last tag)

-- 23: field length wrong for its tag, and whatever else a form asks of the content
unfoldable pub is_wrong_content : Form → ℕ → List ℕ → Bool
is_wrong_content form tag content = not (form.fits tag content)

pub record Tagged : Type 0 where
  pub tag : ℕ
  pub content : List ℕ

unfoldable pub with_field : ℕ → List ℕ → Result (List Tagged) → Result (List Tagged)
with_field tag content (given fs) = given (record { tag = tag; content = content } ∷ fs)
with_field tag content (refused n) = refused n

-- in one field 21 before 20 before 23; `more` is what the bytes behind it give
unfoldable pub met : Form → ℕ → Field → (ℕ → List ℕ → Result (List Tagged)) → Result (List Tagged)
met form last ended more = given []
met form last (cut tag) more = refused (if is_wrong_tag form last tag then 21 else 20)
met form last (whole tag content rest) more =
    if is_wrong_tag form last tag then refused 21
    else if is_wrong_content form tag content then refused 23
    else with_field tag content (more tag rest)

-- 20, 21 and 23 are met in field order; `fuel` is at least the number of fields
unfoldable pub fields_from : Form → ℕ → ℕ → List ℕ → Result (List Tagged)
fields_from form zero last s = given []
fields_from form (suc fuel) last s = met form last (field s) (λ tag rest. fields_from form fuel tag rest)

unfoldable pub fields : Form → List ℕ → Result (List Tagged)
fields form s = fields_from form (length s) 0 s

-- the content of the field with a tag
unfoldable pub content_of : ℕ → List Tagged → Option (List ℕ)
content_of t [] = none
content_of t (f ∷ fs) = if eqb f.tag t then some f.content else content_of t fs

-- tags 1 to 8: 1 letters; 2 bounds, two bytes each; 3 table, one byte; 4 exceptions, three bytes each; 5 and 6 more letters; 7 bounds, four
-- bytes each; 8 how the CDS ends, one byte, absent for a stop
unfoldable pub reference_form : Form
reference_form =
    record {
      knows = λ tag. leb 1 tag && leb tag 8;
      fits = λ tag content.
          if eqb tag 2 then eqb (length content) 4
          else if eqb tag 3 then eqb (length content) 1
          else if eqb tag 4 then eqb (length content % 3) 0
          else if eqb tag 5 || eqb tag 6 then leb 1 (length content)
          else if eqb tag 7 then eqb (length content) 8
          else if eqb tag 8 then eqb (length content) 1 && is_short_end (get_or content 0 0)
          else true;
    }

-- codon, two bytes; residue
unfoldable pub exceptions_in : List ℕ → List Exception
exceptions_in [] = []
exceptions_in (a ∷ []) = []
exceptions_in (a ∷ b ∷ []) = []
exceptions_in (a ∷ b ∷ r ∷ s) = record { codon = two_bytes a b; residue = r } ∷ exceptions_in s

-- tags 4, 5, 6 and 8 may be absent, and one of 2 and 7
abbrev pub or_empty : Option (List ℕ) → List ℕ
or_empty none = []
or_empty (some s) = s

abbrev pub is_there : Option (List ℕ) → Bool
is_there none = false
is_there (some s) = true

-- the contents of the tags
pub record Contents : Type 0 where
  pub letters : Option (List ℕ)
  pub bounds : Option (List ℕ)
  pub table : Option (List ℕ)
  pub exceptions : Option (List ℕ)
  pub second : Option (List ℕ)
  pub third : Option (List ℕ)
  pub wide : Option (List ℕ)
  pub end : Option (List ℕ)

unfoldable pub contents_of : List Tagged → Contents
contents_of fs =
    record {
      letters = content_of 1 fs;
      bounds = content_of 2 fs;
      table = content_of 3 fs;
      exceptions = content_of 4 fs;
      second = content_of 5 fs;
      third = content_of 6 fs;
      wide = content_of 7 fs;
      end = content_of 8 fs;
    }

-- letters beyond 65,535 go on in tag 5 and then tag 6
unfoldable pub joined_letters : Contents → List ℕ
joined_letters c = or_empty c.letters ++ or_empty c.second ++ or_empty c.third

-- 22: tag 1 or 3 missing, or neither of 2 and 7 there
unfoldable pub is_incomplete : Contents → Bool
is_incomplete c = not (is_there c.letters) || not (is_there c.bounds || is_there c.wide) || not (is_there c.table)

-- a letter field is full with 65,535 letters; a missing one isn't
unfoldable pub is_full : Option (List ℕ) → Bool
is_full letters = eqb (length (or_empty letters)) 65535

-- a letter field begun before the last was full
unfoldable pub is_begun_early : Option (List ℕ) → Option (List ℕ) → Bool
is_begun_early last letters = is_there letters && not (is_full last)

-- tag 2 with more than 16,384 letters, or tag 7 with no more: so never both tags
unfoldable pub are_wrong_bounds : Contents → Bool
are_wrong_bounds c = if ltb 16384 (length (joined_letters c)) then is_there c.bounds else is_there c.wide

-- 22, then 25: both bounds tags, the wrong one for L, or a letter field begun before the last was full
unfoldable pub content_tests : Contents → List Test
content_tests c =
    is_incomplete c ↯ 22
    ∷ (are_wrong_bounds c || is_begun_early c.letters c.second || is_begun_early c.second c.third) ↯ 25
    ∷ []

pub record Bounds : Type 0 where
  pub cs : ℕ
  pub ce : ℕ

-- cs and ce, two bytes each in tag 2, or without it four bytes each in tag 7
unfoldable pub bounds_in : Option (List ℕ) → List ℕ → Bounds
bounds_in none wide = record { cs = four_bytes (get_or wide 0 0) (get_or wide 1 0) (get_or wide 2 0) (get_or wide 3 0); ce = four_bytes (get_or wide 4 0) (get_or wide 5 0) (get_or wide 6 0) (get_or wide 7 0) }
bounds_in (some s) wide = record { cs = two_bytes (get_or s 0 0) (get_or s 1 0); ce = two_bytes (get_or s 2 0) (get_or s 3 0) }

-- the reference that contents hold; without tag 8 the CDS ends at a stop
unfoldable pub reference_in : Contents → Reference
reference_in c =
    record {
      letters = joined_letters c;
      cs = (bounds_in c.bounds (or_empty c.wide)).cs;
      ce = (bounds_in c.bounds (or_empty c.wide)).ce;
      table = get_or (or_empty c.table) 0 0;
      exceptions = exceptions_in (or_empty c.exceptions);
      end = get_or (or_empty c.end) 0 at_stop;
    }

unfoldable pub assembled : Contents → Result Reference
assembled c = unless (first_number (content_tests c)) (reference_in c)

-- the reference that fields hold, or their refusal; 1 to 5, 6 or 28 aren't judged
unfoldable pub assembled_in : Result (List Tagged) → Result Reference
assembled_in (refused n) = refused n
assembled_in (given fs) = assembled (contents_of fs)

-- then 1 to 5, 6 or 28
unfoldable pub checked : ℕ → Result Reference → Result Reference
checked longest (refused n) = refused n
checked longest (given r) = unless (reference_refusal longest r) r

-- the reference that bytes store, or the one refusal; `longest` is refusal 1's limit
unfoldable pub stored_reference : ℕ → List ℕ → Result Reference
stored_reference longest s = checked longest (assembled_in (fields reference_form s))

-- the letters are joined in a lent buffer where there is a tag 5, else they stay where they are
unfoldable pub is_joined : Result (List Tagged) → Bool
is_joined (refused n) = false
is_joined (given fs) = is_there (content_of 5 fs)

-- then 29: the joined letters don't fit the `room` bytes lent for them
unfoldable pub fitted : ℕ → Bool → Result Reference → Result Reference
fitted room joined (refused n) = refused n
fitted room joined (given r) = if joined && ltb room (size r) then refused 29 else given r

unfoldable pub read_reference : ℕ → ℕ → List ℕ → Result Reference
read_reference longest room s = fitted room (is_joined (fields reference_form s)) (stored_reference longest s)

-- what the buffer holds from its start then: the joined letters
unfoldable pub joined_by : Bool → Result Reference → List ℕ
joined_by joined (refused n) = []
joined_by joined (given r) = if joined then r.letters else []

unfoldable pub written_joined : ℕ → ℕ → List ℕ → List ℕ
written_joined longest room s = joined_by (is_joined (fields reference_form s)) (read_reference longest room s)
