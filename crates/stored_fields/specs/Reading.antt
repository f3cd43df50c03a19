-- What an answer tells of a stored reference, by places in the caller's bytes.
use Rattle.std.specs.Prelude.{ℕ, Some, ◌+◌, ◌%◌, ◌≤◌, ◌≡◌, List, [], ◌∷◌, ◌++◌, length, get_or}
use Rattle.std.proofs.Math.Option.{none, some}
use Rattle.rules.specs.declared.Cds.{Cds}
use Rattle.rules.specs.Bytes.{Result, given, refused}
use Rattle.rules.specs.Record.{part_of}
use Rattle.rules.specs.Reference.{Reference, at_stop}
use Rattle.rules.specs.Stored.{Bounds, bounds_in, reference_form, fields, exceptions_in, is_joined}
use Rattle.rules.specs.Views.{cds_of}
use Rattle.fields.specs.Places.{content_at, part_or_empty}
use Rattle.fields.specs.Refusals.{refusal_in}
use Rattle.stored_places.specs.declared.Places.{Places}
pub use Rattle.stored_places.specs.Refusal.{is_there}
use Rattle.stored_fields.specs.declared.field_places.StoredAt.{StoredAt}

-- the bounds that the contents of tags 2 and 7 hold, one of them empty
abbrev pub bounds_by : List ℕ → List ℕ → Bounds
bounds_by [] wide = bounds_in none wide
bounds_by (x ∷ s) wide = bounds_in (some (x ∷ s)) wide

-- the numbers that the contents of tags 2 or 7, 3 and 8 hold
abbrev pub cds_in : List ℕ → List ℕ → List ℕ → List ℕ → Cds
cds_in bounds wide table end = cds_of (bounds_by bounds wide).cs (bounds_by bounds wide).ce (get_or table 0 0) (get_or end 0 at_stop)

-- the lengths that contents have
pub record Fit (bounds long table : List ℕ) : Type 0 where
  pub narrow : (length bounds ≡ 0 → ⊥) → length bounds ≡ 4
  pub wide : length bounds ≡ 0 → length long ≡ 8
  pub one : length table ≡ 1

-- the letters that stand in the bytes at a place, one part behind the other
abbrev pub letters_at : List ℕ → StoredAt → List ℕ
letters_at s p = part_of p.letters s ++ (part_of p.second s ++ part_of p.third s)

-- the reference that stands in the bytes at a place
abbrev pub placed_reference : List ℕ → StoredAt → Reference
placed_reference s p =
    record {
      letters = letters_at s p;
      cs = p.cds.cs;
      ce = p.cds.ce;
      table = p.cds.table;
      exceptions = exceptions_in (part_of p.exceptions s);
      end = p.cds.end;
    }

-- what an answer tells: a reference, or the refusal
unfoldable pub told_reference : List ℕ → Result StoredAt → Result Reference
told_reference s (refused n) = refused n
told_reference s (given p) = given (placed_reference s p)

-- in fields that aren't refused, where the contents stand; there is a tag 1
pub record Stand (s : List ℕ) (p : Places) : Type 0 where
  pub unrefused : refusal_in (fields reference_form s) ≡ 0
  pub letters : Some p.letters ≡ content_at 1 s
  pub bounds : p.bounds ≡ part_or_empty (content_at 2 s)
  pub table : p.table ≡ part_or_empty (content_at 3 s)
  pub exceptions : p.exceptions ≡ part_or_empty (content_at 4 s)
  pub second : p.second ≡ part_or_empty (content_at 5 s)
  pub third : p.third ≡ part_or_empty (content_at 6 s)
  pub wide : p.wide ≡ part_or_empty (content_at 7 s)
  pub end : p.end ≡ part_or_empty (content_at 8 s)

-- the letters and the exceptions stand where tags 1, 5, 6 and 4 have their contents, within the bytes; exceptions are three bytes each; a second
-- part of the letters is there exactly if they are joined, and a third only then
pub record Placed (s : List ℕ) (p : StoredAt) : Type 0 where
  pub letters : p.letters ≡ part_or_empty (content_at 1 s)
  pub second : p.second ≡ part_or_empty (content_at 5 s)
  pub third : p.third ≡ part_or_empty (content_at 6 s)
  pub exceptions : p.exceptions ≡ part_or_empty (content_at 4 s)
  pub letters-within : p.letters.at + p.letters.len ≤ length s
  pub second-within : p.second.at + p.second.len ≤ length s
  pub third-within : p.third.at + p.third.len ≤ length s
  pub exceptions-within : p.exceptions.at + p.exceptions.len ≤ length s
  pub threes : p.exceptions.len % 3 ≡ 0
  pub joined : is_joined (fields reference_form s) ≡ is_there p.second
  pub alone : p.second.len ≡ 0 → p.third.len ≡ 0

-- an answer: the reference, or its refusal, and where in the bytes it stands
pub record Reads (s : List ℕ) (x : Result Reference) (r : Result StoredAt) : Type 0 where
  pub says : told_reference s r ≡ x
  pub stands : (p : StoredAt) → r ≡ given p → Placed s p
