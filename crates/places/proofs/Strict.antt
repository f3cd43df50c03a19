-- What the contracts say of the upper_case letters of transcripts and edits, which plain translation takes for themselves.
-- Assumes nothing.
use mathlib.Core.Path.{◌≡◌, refl, ap, ◌∙◌}
use mathlib.Core.Bool.{Bool, true, and-eq-true_iff}
use mathlib.Core.List.{List, [], ◌∷◌, map}
use Prim.Native.Nat.{ℕ, zero, suc, ◌-◌, ◌%◌}
use lib.ListN.{length, take}
use Rattle.rules.specs.declared.Exception.{Exception}
use Rattle.rules.specs.Bytes.{all}
use Rattle.rules.specs.Letters.{is_letter, folded}
use Rattle.rules.specs.Translation.{translated, folded_translated, whole_codons, fold_to_letters}
use Rattle.letters.specs.Sets.{is_base, folds_to_base}
use Rattle.letters.proofs.Loops.{all_implied}
use Rattle.letters.proofs.Sets.{letter_plain, base_is-letter, base_folds}
use Rattle.places.specs.Places.{fold_to_bases}

same-letters : (s : List ℕ) → all is_letter s ≡ true → map folded s ≡ s
unfolding all
same-letters [] e = refl
same-letters (b ∷ s) e =
    let both = (and-eq-true_iff (is_letter b) (all is_letter s)).0 e in
    rw (letter_plain b both.0, same-letters s both.1)

all_take : (p : ℕ → Bool) (n : ℕ) (s : List ℕ) → all p s ≡ true → all p (take n s) ≡ true
unfolding all
all_take p zero s e = refl
all_take p (suc n) [] e = refl
all_take p (suc n) (x ∷ s) e =
    let both = (and-eq-true_iff (p x) (all p s)).0 e in
    rw (both.0, all_take p n s both.1)

module _ (s : List ℕ) (e : all is_letter s ≡ true) where
  pub strict-letters : fold_to_letters s ≡ true
  unfolding fold_to_letters whole_codons
  strict-letters =
      let whole : all is_letter (take (length s - length s % 3) s) ≡ true = all_take is_letter (length s - length s % 3) s e in
      ap (all is_letter) (same-letters (take (length s - length s % 3) s) whole) ∙ whole

  pub strict-translated : (t : ℕ) (es : List Exception) → folded_translated t es s ≡ translated t es s
  unfolding folded_translated
  strict-translated t es = ap (translated t es) (same-letters s e)

  pub strict-whole : (t : ℕ) (es : List Exception) → folded_translated t es (whole_codons s) ≡ translated t es (whole_codons s)
  unfolding folded_translated whole_codons
  strict-whole t es =
      ap (translated t es) (same-letters (take (length s - length s % 3) s) (all_take is_letter (length s - length s % 3) s e))

pub whole_bases : (s : List ℕ) → all folds_to_base s ≡ true → fold_to_bases s ≡ true
unfolding fold_to_bases whole_codons
whole_bases s e = all_take folds_to_base (length s - length s % 3) s e

-- bases are letters, and fold to bases
pub bases_are_letters : (s : List ℕ) → all is_base s ≡ true → all is_letter s ≡ true
bases_are_letters = all_implied is_base is_letter base_is-letter

pub bases_fold : (s : List ℕ) → all is_base s ≡ true → all folds_to_base s ≡ true
bases_fold = all_implied is_base folds_to_base base_folds
