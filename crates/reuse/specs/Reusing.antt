-- What a plan leaves of R in numbers, A in pieces, and what is known where they are written. Assumes nothing: these are definitions.
use Rattle.std.specs.Prelude.{ℕ, ◌+◌, ◌-◌, ◌*◌, ◌/◌, ◌%◌, ◌≤◌, ◌<◌, ◌≡◌, Bool, false, ◌&&◌, ◌||◌, List, [], ◌++◌, eqb, leb, ltb, length, get_or, take, drop, if◌then◌else◌}
use Rattle.rules.specs.declared.Cds.{Cds}
use Rattle.rules.specs.declared.Exceptions.{Exceptions}
use Rattle.rules.specs.Bytes.{byte}
use Rattle.rules.specs.Translation.{exception_list, before_stop, through_stop, folded_translated}
use Rattle.rules.specs.Reference.{at_stop}
use Rattle.rules.specs.Altered.{part}
use Rattle.places.specs.Looked.{Walks}
use Rattle.edits.specs.declared.plans.Plan.{Plan}
use Rattle.edits.specs.declared.plans.Source.{Source}
use Rattle.edits.specs.declared.plans.Source.TheVariants.{New, Copy, Turned}
use Rattle.reuse.specs.declared.pieces.Pieces.{Pieces}

-- a range of its own bases goes in again
unfoldable pub is_identity_by : Source → ℕ → ℕ → Bool
is_identity_by New from to = false
is_identity_by Copy from to = ltb from to
is_identity_by Turned from to = false

abbrev pub is_identity : Plan → Bool
is_identity p = is_identity_by p.source p.from p.to

-- no codon is read: an identity, or an edit behind the stop
unfoldable pub keeps_all_by : Cds → Plan → Bool
keeps_all_by c p = is_identity p || (eqb c.end at_stop && leb c.ce p.from)

-- the index behind what goes in
abbrev pub put_end : Plan → ℕ
put_end p = p.from + p.kept

-- codons wholly before the edit, the first wholly behind it, and which one that was in the reference
abbrev pub head_by : Cds → Plan → ℕ
head_by c p = (p.from - (c.cs - 1)) / 3

abbrev pub tail_by : Cds → Plan → ℕ
tail_by c p = (put_end p - (c.cs - 1) + 2) / 3

abbrev pub back_by : Cds → Plan → ℕ
back_by c p = (tail_by c p * 3 + p.to - put_end p) / 3

abbrev pub codons_by : Cds → ℕ
codons_by c = (c.ce - (c.cs - 1)) / 3

-- the frame is kept, and a CDS codon follows
unfoldable pub is_level_by : Cds → Plan → Bool
is_level_by c p = eqb (put_end p % 3) (p.to % 3) && ltb (back_by c p) (codons_by c)

-- the pieces of a plan, where R has so many residues
unfoldable pub pieces_by : Cds → Plan → ℕ → Pieces
pieces_by c p residues =
    if keeps_all_by c p then
    record {
      head = codons_by c;
      start = c.cs - 1 + codons_by c * 3;
      end = c.cs - 1 + codons_by c * 3;
      back = codons_by c;
    }
    else if is_level_by c p then
    record {
      head = head_by c p;
      start = c.cs - 1 + head_by c p * 3;
      end = c.cs - 1 + tail_by c p * 3;
      back = back_by c p;
    }
    else
    record {
      head = head_by c p;
      start = c.cs - 1 + head_by c p * 3;
      end = p.length;
      back = residues;
    }

-- a plan whose bases lie behind the first of the CDS, and whose places fit
pub record Placed (c : Cds) (p : Plan) : Type 0 where
  pub front : c.cs - 1 ≤ p.from
  pub rising : p.from ≤ p.to
  pub small : p.to < 4294967296
  pub put_small : p.kept < 8589934592

-- the last residue is a stop
unfoldable pub ends_in_stop : List ℕ → Bool
ends_in_stop s = ltb 0 (length s) && eqb (get_or s (length s - 1) 0) (byte "*")

-- residues through the first stop; with none, all of them, and others behind
unfoldable pub resumed : List ℕ → List ℕ → List ℕ
resumed m rest = if ltb (before_stop m) (length m) then through_stop m else (through_stop m ++ rest)

-- how many stand behind
unfoldable pub behind_of : List ℕ → List ℕ → ℕ
behind_of m rest = if ltb (before_stop m) (length m) then 0 else length rest

-- letters that were looked at, no exceptions, and room for what is read and for what follows, whose number fits
pub record Resumes (table : ℕ) (plain : Bool) (seq : List ℕ) (none : Exceptions) (rest out : List ℕ) : Type 0 where
  pub walks : Walks table plain seq none out
  pub bare : exception_list none ≡ []
  pub room : length (resumed (folded_translated table [] seq) rest) ≤ length out
  pub short : length (resumed (folded_translated table [] seq) rest) < 8589934592

-- the letters that are read
unfoldable pub read_by : List ℕ → Pieces → List ℕ
read_by transcript q = part q.start q.end transcript

-- A by its pieces
unfoldable pub reused_by : ℕ → List ℕ → List ℕ → Pieces → List ℕ
reused_by table transcript protein q =
    take q.head protein ++ resumed (folded_translated table [] (read_by transcript q)) (drop q.back protein)

-- pieces of a transcript that was looked at and of R, no exceptions, and room for A, whose length fits
pub record Reuses (table : ℕ) (plain : Bool) (transcript : List ℕ) (none : Exceptions) (protein : List ℕ) (q : Pieces) (altered : List ℕ) : Type 0 where
  pub head : q.head ≤ length protein
  pub rises : q.start ≤ q.end
  pub ends : q.end ≤ length transcript
  pub back : q.back ≤ length protein
  pub walks : Walks table plain (read_by transcript q) none (drop q.head altered)
  pub bare : exception_list none ≡ []
  pub room : length (reused_by table transcript protein q) ≤ length altered
  pub short : length (reused_by table transcript protein q) < 8589934592
