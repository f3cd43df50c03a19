-- Laws of the protein of a pair's transcript: what its translation demands, and what it leaves.
-- Assumes nothing.
use mathlib.Core.Path.{◌≡◌, sym, ◌∙◌}
use mathlib.Core.Bool.{Bool, true, ◌&&◌}
use mathlib.Core.List.{List, []}
use Prim.Native.Nat.{ℕ, ◌-◌}
use native.Mathlib.Omega.{arith}
use lib.ListN.{length, take, drop, length-drop}
use Rattle.rules.specs.declared.Exceptions.{Exceptions}
use Rattle.rules.specs.Bytes.{all}
use Rattle.rules.specs.Letters.{is_letter}
use Rattle.rules.specs.Translation.{exception_list, through_stop, residue_count, folded_translated}
use Rattle.rules.proofs.Tests.{and_left, and_right, all_drop}
use Rattle.rules.proofs.Over.{tail-is}
use Rattle.letters.specs.Sets.{is_base}
use Rattle.places.specs.Looked.{Walks}
use Rattle.places.proofs.Strict.{strict-letters, strict-translated, whole_bases, bases_fold}
use Rattle.reference.specs.declared.Known.{Known}
use Rattle.cuts.proofs.Cuts.{none_listed}
use Rattle.pairs.specs.Carrying.{protein_in, Codes}

module _ (k : Known) (new other t alt : List ℕ) (x : Codes k new other t alt) where
  -- the part that is translated
  abbrev coding : List ℕ
  coding = take (length t - (k.cds.cs - 1)) (drop (k.cds.cs - 1) t)

  coding-is : coding ≡ drop (k.cds.cs - 1) t
  coding-is = tail-is (k.cds.cs - 1) t

  coding-letters : all is_letter coding ≡ true
  coding-letters = rw coding-is (all_drop is_letter (k.cds.cs - 1) t x.letters)

  pub coding-walks : (none : Exceptions) → none.count ≡ 0 → (one two : Bool) → one ≡ all is_base new → two ≡ all is_base other
      → Walks k.cds.table (k.plain && one && two) coding none alt
  unfolding residue_count
  coding-walks none few one two first second =
      record {
        reads =
            record {
              code = x.code;
              letters = strict-letters coding coding-letters;
              bases =
                  λ h.
                  let both = and_left (k.plain && one) two h in
                  whole_bases coding
                  (bases_fold coding (rw coding-is (all_drop is_base (k.cds.cs - 1) t (x.plain (and_left k.plain one both) (sym first ∙ and_right k.plain one both) (sym second ∙ and_right (k.plain && one) two h)))));
              few = omega (arith, few);
            };
        room = rw (coding-is, length-drop (k.cds.cs - 1) t) (omega (arith, x.room, x.first));
      }

  -- what is read is the protein
  pub coded : (none : Exceptions) → none.count ≡ 0 → through_stop (folded_translated k.cds.table (exception_list none) coding) ≡ protein_in k.cds t
  unfolding protein_in
  coded none few = rw (none_listed none few, strict-translated coding coding-letters k.cds.table [], coding-is)
