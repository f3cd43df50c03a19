-- What an accepted edit does, in numbers.
use Rattle.std.specs.Prelude.{ℕ, ◌-◌, ◌%◌, ◌<◌, ◌≤◌, ◌≡◌, List, true, false, ◌||◌, length, take}
use Rattle.rules.specs.declared.Cds.{Cds}
use Rattle.rules.specs.declared.Kind.{Kind}
use Rattle.rules.specs.declared.Kind.TheVariants.{Substitution, Deletion, Delins, Insertion, Duplication, Inversion, Identity, Other}
use Rattle.rules.specs.Bytes.{all}
use Rattle.rules.specs.Letters.{is_letter}
use Rattle.rules.specs.Complement.{reverse_complement}
use Rattle.rules.specs.Reference.{Reference, size}
use Rattle.rules.specs.Position.{is_outside}
use Rattle.rules.specs.Edit.{Asked, kind_of, start_index, end_index}
use Rattle.rules.specs.Altered.{part, is_replacing, is_inserting, swap, finds_stop, kept, altered_length, frameshift}
use Rattle.rules.specs.Record.{silent_number}
use Rattle.cuts.specs.declared.Cut.{Cut}
use Rattle.cuts.specs.Cuts.{cut_of}
use Rattle.spans.specs.declared.Range.{Range}
use Rattle.edits.specs.declared.plans.Source.{Source}
use Rattle.edits.specs.declared.plans.Source.TheVariants.{New, Copy, Turned}
use Rattle.edits.specs.declared.plans.Plan.{Plan}

-- where what goes in comes from
abbrev pub source_of : Kind → Source
source_of Substitution = New
source_of Deletion = New
source_of Delins = New
source_of Insertion = New
source_of Duplication = Copy
source_of Inversion = Turned
source_of Identity = Copy
source_of Other = Copy

unfoldable pub plan_of : Reference → Asked → Plan
plan_of r e =
    record {
      source = source_of (kind_of e);
      start = start_index r e;
      end = end_index r e;
      from = (swap r e).from;
      to = (swap r e).to;
      kept = length (kept r e);
      length = altered_length r e;
      shift = frameshift r e;
      stopped = finds_stop r e;
      number = silent_number r e;
    }

-- what a source holds, before the cut
unfoldable pub source_bytes : Source → ℕ → ℕ → List ℕ → List ℕ → List ℕ
source_bytes New start end letters new = new
source_bytes Copy start end letters new = part start end letters
source_bytes Turned start end letters new = reverse_complement (part start end letters)

-- the bytes that go in by a plan
unfoldable pub goes_in : Plan → List ℕ → List ℕ → List ℕ
goes_in p letters new = take p.kept (source_bytes p.source p.start p.end letters new)

-- what an edit that isn't refused leaves
pub record Planned (r : Reference) (e : Asked) : Type 0 where
  pub start-inside : is_outside r.cs r.ce e.edit.start ≡ false
  pub end-inside : is_outside r.cs r.ce e.edit.end ≡ false
  pub front : r.cs - 1 ≤ start_index r e
  pub starts : start_index r e < r.ce
  pub rising : start_index r e < end_index r e
  pub ends : end_index r e ≤ size r
  pub few : length e.new < 4294967296
  pub letters : all is_letter e.new ≡ true

-- the range of an edit's bases
pub record Ranges (r : Reference) (e : Asked) (g : Range) : Type 0 where
  pub start : start_index r e ≡ g.start
  pub end : end_index r e ≡ g.end

-- the range gives way to the new bases
pub record Replaces (r : Reference) (e : Asked) (g : Range) (new : List ℕ) : Type 0 where
  pub kind : is_replacing (kind_of e) ≡ true
  pub range : Ranges r e g
  pub bases : e.new ≡ new

-- `put`, from a source, goes in at an index
pub record Inserts (r : Reference) (e : Asked) (g : Range) (source : Source) (index : ℕ) (put : List ℕ) : Type 0 where
  pub kind : is_inserting (kind_of e) ≡ true
  pub range : Ranges r e g
  pub comes : source_of (kind_of e) ≡ source
  pub swaps : swap r e ≡ record { from = index; to = index; put = put }

-- so many bases of a transcript of so many, and their cut where they go in at an index
pub record Goes (size put : ℕ) (cut : Cut) (s : List ℕ) (c : Cds) (index : ℕ) (bases : List ℕ) : Type 0 where
  pub long : length s ≡ size
  pub many : length bases ≡ put
  pub cuts : cut ≡ cut_of c.table ((index - (c.cs - 1)) % 3) bases

-- the range gives way to as many bases, from a source
pub record Keeps (r : Reference) (e : Asked) (g : Range) (source : Source) : Type 0 where
  pub kind : (is_replacing (kind_of e) || is_inserting (kind_of e)) ≡ false
  pub range : Ranges r e g
  pub comes : source_of (kind_of e) ≡ source
