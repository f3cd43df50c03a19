-- Where R goes on behind what was read, the letters that an edit touches, and what is known where they are read. Assumes nothing: these are definitions.
use Rattle.std.specs.Prelude.{ℕ, ◌+◌, ◌-◌, ◌*◌, ◌/◌, ◌%◌, ◌≤◌, ◌<◌, min, ◌≡◌, Bool, true, List, [], length, if◌then◌else◌}
use Rattle.rules.specs.declared.Exceptions.{Exceptions}
use Rattle.rules.specs.Bytes.{all}
use Rattle.rules.specs.Letters.{is_letter}
use Rattle.rules.specs.Translation.{exception_list, residue_count}
use Rattle.letters.specs.Sets.{is_base}
use Rattle.places.specs.Looked.{Reads}
use Rattle.reference.specs.declared.Known.{Known}
use Rattle.edits.specs.declared.plans.Plan.{Plan}
use Rattle.transcript.specs.Carrying.{Sourced, carried_by}
use Rattle.reuse.specs.declared.pieces.Pieces.{Pieces}
use Rattle.reuse.specs.Reusing.{ends_in_stop}

-- R goes on from `back` on, but not behind a stop
unfoldable pub back_behind : List ℕ → ℕ → ℕ → ℕ
back_behind read back residues = if ends_in_stop read then residues else back

-- the end of the last codon that has a letter of what goes in, counted in codons from `start` on, and at most `end`
unfoldable pub edge_of : Plan → ℕ → ℕ → ℕ
edge_of p start end = min end (start + (p.from + p.kept - start + 2) / 3 * 3)

-- letters start..edge of the altered transcript, from before the edit to behind what goes in
pub record Touches (p : Plan) (letters new : List ℕ) (start edge : ℕ) : Type 0 where
  pub source : Sourced p letters new
  pub before : start ≤ p.from
  pub rising : p.from ≤ p.to
  pub behind : p.from + p.kept ≤ edge
  pub inside : p.to + (edge - (p.from + p.kept)) ≤ length letters
  pub short : length letters + edge < 17179869184

-- letters in two parts that were looked at, no exceptions, and room for their residues
pub record Follows (table : ℕ) (plain : Bool) (touched own : List ℕ) (none : Exceptions) (out : List ℕ) : Type 0 where
  pub reads : Reads table plain touched none
  pub reads-own : Reads table plain own none
  pub bare : exception_list none ≡ []
  pub whole : (length own ≡ 0 → ⊥) → length touched % 3 ≡ 0
  pub room : residue_count (length touched + length own) ≤ length out

-- pieces of the transcript that a plan makes, which was looked at: nothing is read, or letters from before the edit to behind what goes in; and there is room
pub record Spans (letters : List ℕ) (k : Known) (none : Exceptions) (p : Plan) (new : List ℕ) (q : Pieces) (coding out : List ℕ) : Type 0 where
  pub touches : (q.start ≡ q.end → ⊥) → Touches p letters new q.start q.end
  pub ends : q.end ≤ length (carried_by p letters new)
  pub room : q.end - q.start ≤ length coding
  pub room_out : residue_count (q.end - q.start) ≤ length out
  pub bare : none.count ≡ 0
  pub code : k.cds.table < 3
  pub letters-are : all is_letter (carried_by p letters new) ≡ true
  pub plain : k.plain ≡ true → all is_base new ≡ true → all is_base (carried_by p letters new) ≡ true
