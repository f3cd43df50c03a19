-- Laws of the protein of an altered transcript: what its translation demands, and what it leaves.
-- Assumes nothing.
use mathlib.Core.Path.{◌≡◌, refl, sym, ◌∙◌}
use mathlib.Core.Bool.{Bool, true, ◌&&◌}
use mathlib.Core.List.{List}
use Prim.Native.Nat.{ℕ, ◌-◌, ◌/◌, ◌≤◌, min}
use native.Mathlib.Omega.{arith}
use lib.ListN.{length, take, drop, length-drop}
use Rattle.rules.specs.declared.Exceptions.{Exceptions}
use Rattle.rules.specs.Bytes.{all}
use Rattle.rules.specs.Letters.{is_letter}
use Rattle.rules.specs.Translation.{exception_list, through_stop, residue_count, folded_translated}
use Rattle.rules.specs.Trims.{common_prefix}
use Rattle.rules.specs.Exceptions.{moved_all}
use Rattle.rules.specs.Protein.{protein_of}
use Rattle.rules.specs.Views.{reference_of}
use Rattle.rules.proofs.Tests.{and_left, and_right, all_drop}
use Rattle.rules.proofs.Over.{tail-is}
use Rattle.letters.specs.Sets.{is_base}
use Rattle.places.specs.Looked.{Walks}
use Rattle.walks.specs.Walks.{codons_walked}
use Rattle.places.proofs.Strict.{strict-letters, strict-translated, whole_bases, bases_fold}
use Rattle.reference.specs.declared.Known.{Known}
use Rattle.exceptions.proofs.Moving.{moved_is}
use Rattle.altseq.specs.Carried.{Codes}

module _ (s : List ℕ) (k : Known) (e : Exceptions) (new t alt : List ℕ) (x : Codes s k e new t alt) where
  -- the part that is translated
  abbrev coding : List ℕ
  coding = take (length t - (k.cds.cs - 1)) (drop (k.cds.cs - 1) t)

  coding-is : coding ≡ drop (k.cds.cs - 1) t
  coding-is = tail-is (k.cds.cs - 1) t

  coding-letters : all is_letter coding ≡ true
  coding-letters = rw coding-is (all_drop is_letter (k.cds.cs - 1) t x.letters)

  pub coding-walks : (moved : Exceptions) → moved.count ≤ 16 → (bases : Bool) → bases ≡ all is_base new
      → Walks k.cds.table (k.plain && bases) coding moved alt
  unfolding residue_count
  coding-walks moved few bases is =
      record {
        reads =
            record {
              code = x.sound.table;
              letters = strict-letters coding coding-letters;
              bases =
                  λ h.
                  whole_bases coding
                  (bases_fold coding (rw coding-is (all_drop is_base (k.cds.cs - 1) t (x.plain (and_left k.plain bases h) (sym is ∙ and_right k.plain bases h)))));
              few = few;
            };
        room = rw (coding-is, length-drop (k.cds.cs - 1) t) (omega (arith, x.room, x.sound.bounds.first));
      }

  -- what is read is the protein
  pub coded : (moved : Exceptions) → exception_list moved ≡ moved_all (common_prefix s t) (k.cds.cs - 1) s t (exception_list e)
      → through_stop (folded_translated k.cds.table (exception_list moved) coding) ≡ protein_of (reference_of s k.cds e) t
  unfolding protein_of
  coded moved is =
      let r = reference_of s k.cds e in
      let es = moved_is r t (k.cds.cs - 1) (exception_list e) (exception_list moved) refl refl is in
      rw (strict-translated coding coding-letters k.cds.table (exception_list moved), coding-is, es)

  -- and the codons through its first stop are looked up
  pub counted : (moved : Exceptions) → exception_list moved ≡ moved_all (common_prefix s t) (k.cds.cs - 1) s t (exception_list e)
      → codons_walked k.cds.table (exception_list moved) coding ≡ min (length (protein_of (reference_of s k.cds e) t)) (length (drop (k.cds.cs - 1) t) / 3)
  unfolding codons_walked
  counted moved is = rw (coded moved is, coding-is)
