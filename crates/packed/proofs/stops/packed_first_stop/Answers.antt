-- `packed::stops::packed_first_stop` meets its contract: what it reads are the codons of the letters. Assumes nothing.
use mathlib.Core.Path.{◌≡◌, sym, ap, ◌∙◌}
use mathlib.Core.List.{List, map}
use Prim.Native.Nat.{ℕ, ◌+◌, ◌-◌, ◌*◌, ◌/◌, ◌≤◌}
use native.Mathlib.Omega.{arith}
use borrow.Author.Rules.{rules}
use Rattle.rules.specs.Altered.{part}
use Rattle.rules.specs.Codons.{codon_rule}
use Rattle.rules.specs.Letters.{folded}
use Rattle.rules.specs.Packed.{set_at, letters_in}
use Rattle.places.specs.Places.{codon_at}
use Rattle.halves.proofs.Halves.{length_of_part}
use Rattle.packed.proofs.Codons.{codon-in}
use Rattle.packed.proofs.stops.packed_first_stop.Goals as goal

-- the residue of the codon that is read
read : (t : ℕ) (bs : List ℕ) (first end i r : ℕ) → i * 3 + 3 ≤ end - first → r ≡ codon_rule t (set_at bs (first + i * 3)) (set_at bs (first + i * 3 + 1)) (set_at bs (first + i * 3 + 2))
    → r ≡ codon_at t (map folded (part first end (letters_in bs))) i
read t bs first end i r h is = is ∙ codon-in t first end bs i (first + i * 3) (first + i * 3 + 1) (first + i * 3 + 2) h (omega arith) (omega arith) (omega arith)

pub returns : goal.returns
returns c = let a = c.args in
    c.first_stop_of.ensures a.table (part a.first a.end (letters_in a.packed.now))
    (record {
      many = ap (◌/ 3) (sym (length_of_part a.first a.end a.packed.now c.requires.first_le_end.1));
      each = λ i r h called. read a.table a.packed.now a.first a.end i r (omega arith) (search rules);
    })
