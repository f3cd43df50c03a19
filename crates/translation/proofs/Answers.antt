-- The answer of a plain translation, case by case. Assumes nothing.
use mathlib.Core.Path.{◌≡◌, refl, ◌∙◌}
use mathlib.Core.Bool.{Bool, true, false, ◌&&◌}
use mathlib.Core.List.{List, [], map}
use Prim.Native.Nat.{ℕ, ◌+◌, ◌/◌, ◌%◌, ◌≤◌, ◌<◌}
use lib.Dec.{ltb}
use lib.ListN.{length}
use borrow.Author.Tests.{lt-ltb, le-ltb, le-leb, lt-leb}
use Rattle.rules.specs.declared.Exception.{Exception}
use Rattle.rules.specs.Bytes.{all, first_number, given, refused, unless}
use Rattle.rules.specs.Letters.{is_letter, folded}
use Rattle.rules.specs.Codons.{is_table}
use Rattle.rules.specs.Translation.{are_exceptions, whole_codons, fold_to_letters, folded_translated, translation_tests, translation}
use Rattle.rules.proofs.Lists.{all_map}
use Rattle.letters.specs.Sets.{folds_to_base}
use Rattle.letters.proofs.Loops.{all_implied}
use Rattle.letters.proofs.Sets.{base_letter}
use Rattle.places.specs.Places.{fold_to_bases}
use Rattle.places.proofs.Residues.{length-plain}

module _ (t : ℕ) (es : List Exception) (full : Bool) (s : List ℕ) (room : ℕ) where
  pub no_table : 2 < t → translation t es full s room ≡ refused 4
  unfolding translation translation_tests first_number unless is_table
  no_table h = rw (lt-leb t 2 h)

  module _ (h : t ≤ 2) where
    pub not-allowed : are_exceptions es ≡ false → translation t es full s room ≡ refused 5
    unfolding translation translation_tests first_number unless is_table
    not-allowed a = rw (le-leb t 2 h, a)

    module _ (a : are_exceptions es ≡ true) where
      pub not_full : full && ltb 0 (length s % 3) ≡ true → translation t es full s room ≡ refused 14
      unfolding translation translation_tests first_number unless is_table
      not_full f = rw (le-leb t 2 h, a, f)

      module _ (f : full && ltb 0 (length s % 3) ≡ false) where
        pub no_room : room < (length s + 2) / 3 → translation t es full s room ≡ refused 15
        unfolding translation translation_tests first_number unless is_table
        no_room r = rw (le-leb t 2 h, a, f, length-plain t es s, lt-ltb room ((length s + 2) / 3) r)

        module _ (r : (length s + 2) / 3 ≤ room) where
          pub no-letter : fold_to_letters s ≡ false → translation t es full s room ≡ refused 2
          unfolding translation translation_tests first_number unless is_table
          no-letter l = rw (le-leb t 2 h, a, f, length-plain t es s, le-ltb room ((length s + 2) / 3) r, l)

          pub all-fold-to-letters : fold_to_letters s ≡ true → translation t es full s room ≡ given (folded_translated t es s)
          unfolding translation translation_tests first_number unless is_table
          all-fold-to-letters l = rw (le-leb t 2 h, a, f, length-plain t es s, le-ltb room ((length s + 2) / 3) r, l)

-- bases are letters
pub each-letter : (s : List ℕ) → all folds_to_base s ≡ true → all is_letter (map folded s) ≡ true
each-letter s e = all_map is_letter folded s ∙ all_implied folds_to_base (λ b. is_letter (folded b)) base_letter s e

pub bases-letters : (s : List ℕ) → fold_to_bases s ≡ true → fold_to_letters s ≡ true
unfolding fold_to_bases fold_to_letters
bases-letters s e = each-letter (whole_codons s) e

pub none_taken : are_exceptions [] ≡ true
unfolding are_exceptions all
none_taken = refl
