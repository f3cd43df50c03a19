-- The altered protein in pieces, for a walk that reuses: residues of R before the edit, residues that are read, residues of R behind it. Codons
-- are counted from 0.
use Rattle.std.specs.Prelude.{if◌then◌else◌}
use Prim.Native.Nat.{ℕ, ◌+◌, ◌-◌, ◌*◌, ◌/◌, ◌%◌}
use mathlib.Core.List.{List, []}
use mathlib.Core.Bool.{Bool, ◌&&◌, ◌||◌}
use lib.Dec.{eqb, leb, ltb}
use lib.ListN.{length}
use Rattle.rules.specs.declared.Kind.TheVariants.{Identity}
use Rattle.rules.specs.Translation.{translated}
use Rattle.rules.specs.Reference.{Reference, at_stop, codons}
use Rattle.rules.specs.Edit.{Asked, is, kind_of}
use Rattle.rules.specs.Altered.{part, cut_swap}
use Rattle.rules.specs.Reuse.{altered_coding}

-- no codon is read: an identity, or an edit behind the stop
unfoldable pub keeps_all : Reference → Asked → Bool
keeps_all r e = is Identity (kind_of e) || (eqb r.end at_stop && leb r.ce (cut_swap r e).from)

-- the index behind what goes in
unfoldable pub behind_put : Reference → Asked → ℕ
behind_put r e = (cut_swap r e).from + length (cut_swap r e).put

-- how many codons lie wholly before the edit
unfoldable pub head_of : Reference → Asked → ℕ
head_of r e = if keeps_all r e then codons r else ((cut_swap r e).from - (r.cs - 1)) / 3

-- the first codon wholly behind it
unfoldable pub tail_of : Reference → Asked → ℕ
tail_of r e = if keeps_all r e then codons r else (behind_put r e - (r.cs - 1) + 2) / 3

-- the CDS codon that it was in the reference, where the frame is kept
unfoldable pub back_of : Reference → Asked → ℕ
back_of r e = if keeps_all r e then codons r else (tail_of r e * 3 + (cut_swap r e).to - behind_put r e) / 3

-- the net change keeps the frame, and that codon is one of the CDS
unfoldable pub is_level : Reference → Asked → Bool
is_level r e = keeps_all r e || (eqb (behind_put r e % 3) ((cut_swap r e).to % 3) && ltb (back_of r e) (codons r))

-- what is read between the two, to the end of that piece
unfoldable pub middle : Reference → Asked → List ℕ
middle r e = translated r.table [] (part (head_of r e * 3) (tail_of r e * 3) (altered_coding r e))
