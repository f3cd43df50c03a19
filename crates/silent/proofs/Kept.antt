-- Laws of the exceptions before an edit: they stay, and no other comes there.
-- Assumes nothing.
use Rattle.std.specs.Prelude.{if◌then◌else◌}
use mathlib.Core.Path.{◌≡◌, refl, sym, ap, ◌∙◌}
use mathlib.Core.Bool.{Bool, true, false, ◌&&◌}
use mathlib.Core.List.{List, [], ◌∷◌, ◌++◌}
use Prim.Native.Nat.{ℕ, ◌+◌, ◌-◌, ◌*◌, ◌/◌, ◌%◌, ◌≤◌}
use native.Mathlib.Decide.{dec_le}
use native.Mathlib.Omega.{arith}
use lib.Dec.{eqb, leb}
use lib.ListN.{length, take, drop, take-append-drop}
use borrow.Author.Tests.{eqb-true, eqb-false, leb-true, leb-false, ne_eqb}
use Rattle.rules.specs.declared.Exception.{Exception}
use Rattle.rules.specs.Translation.{excepted}
use Rattle.rules.specs.Trims.{common_prefix}
use Rattle.rules.specs.Reference.{are_rising}
use Rattle.rules.specs.Exceptions.{suffix_behind, in_prefix, in_suffix, shifted, in_frame, codon_index, codon_number, moved_one, moved_all}
use Rattle.rules.proofs.Trims.{cp_take, same_equal, same_self}
use Rattle.rules.proofs.Reading.{excepted-append}
use Rattle.rules.proofs.Moved.{suffix_fits}
use Rattle.rules.proofs.Reference.{rising_cons}

excepted_other : (e : Exception) (n r : ℕ) → (e.codon ≡ n → ⊥) → excepted (e ∷ []) n r ≡ r
unfolding excepted
excepted_other e n r h = rw (ne_eqb e.codon n h)

excepted_none : (n r : ℕ) → excepted [] n r ≡ r
unfolding excepted
excepted_none n r = refl

-- codons up to number k lie in the shared prefix
module _ (old new : List ℕ) (first k : ℕ) (before : first + k * 3 ≤ common_prefix old new) (n : ℕ) (some : 1 ≤ n) (inside : n ≤ k) where
  abbrev prefix : ℕ
  prefix = common_prefix old new

  one-before : (e : Exception) (r : ℕ) → 1 ≤ e.codon → excepted (moved_one prefix first old new e) n r ≡ excepted (e ∷ []) n r
  unfolding moved_one in_prefix in_suffix in_frame shifted codon_index codon_number
  one-before e r numbered =
      by (leb (first + 3 * (e.codon - 1) + 3) prefix) refl (leb (length old - suffix_behind prefix old new) (first + 3 * (e.codon - 1))) refl _
    where
      other : leb (first + 3 * (e.codon - 1) + 3) prefix ≡ false → excepted (e ∷ []) n r ≡ r
      other h = excepted_other e n r (λ z. omega (arith, leb-false (first + 3 * (e.codon - 1) + 3) prefix h))

      by : (a : Bool) → leb (first + 3 * (e.codon - 1) + 3) prefix ≡ a → (b : Bool) → leb (length old - suffix_behind prefix old new) (first + 3 * (e.codon - 1)) ≡ b → (f : Bool)
          → excepted (if a then e ∷ [] else if b && f then record { codon = (first + 3 * (e.codon - 1) + length new - length old - first) / 3 + 1; residue = e.residue } ∷ [] else []) n r ≡ excepted (e ∷ []) n r
      by true h b k f = refl
      by false h true k true =
          let fits = suffix_fits old new in
          let behind = leb-true (length old - suffix_behind prefix old new) (first + 3 * (e.codon - 1)) k in
          excepted_other _ n r (λ z. omega (arith, fits.0, fits.1)) ∙ sym (other h)
      by false h true k false = excepted_none n r ∙ sym (other h)
      by false h false k f = excepted_none n r ∙ sym (other h)

  pub all-before : (last most : ℕ) (es : List Exception) (r : ℕ) → are_rising last most es ≡ true → excepted (moved_all prefix first old new es) n r ≡ excepted es n r
  unfolding moved_all
  all-before last most [] r h = refl
  all-before last most (e ∷ es) r h =
      let this = rising_cons last most e es h in
      excepted-append (moved_one prefix first old new e) (moved_all prefix first old new es) n r
      ∙ all-before e.codon most es (excepted (moved_one prefix first old new e) n r) this.1
      ∙ ap (excepted es n) (one-before e r (omega (arith, this.0.above)))
      ∙ sym (excepted-append (e ∷ []) es n r)

-- transcripts of one length that are the same from `to` on
module _ (old new : List ℕ) (first to : ℕ) (long : length new ≡ length old) (rest : drop to new ≡ drop to old) (behind : common_prefix old new ≤ to → length old - suffix_behind (common_prefix old new) old new ≤ to) where
  -- a prefix that reaches there is all
  whole : to ≤ common_prefix old new → common_prefix old new ≡ length old
  whole h =
      let same-front : take to old ≡ take to new = cp_take to old new h in
      let equal : new ≡ old = sym (take-append-drop to new) ∙ ap (◌++ drop to new) (sym same-front) ∙ ap (take to old ++◌) rest ∙ take-append-drop to old in
      rw equal (eqb-true _ _ (sym (same_equal old old refl) ∙ same_self old))

  module _ (n : ℕ) (some : 1 ≤ n) (there : to ≤ first + 3 * (n - 1)) where
    -- an exception there lies in the prefix or in the suffix
    found : (c : ℕ) → c ≡ n → first + 3 * (c - 1) + 3 ≤ length old → leb (first + 3 * (c - 1) + 3) (common_prefix old new) ≡ false
        → leb (length old - suffix_behind (common_prefix old new) old new) (first + 3 * (c - 1)) ≡ false → ⊥
    found c is inside a b = by (dec_le (common_prefix old new) to)
      where
        by : Dec (common_prefix old new ≤ to) → ⊥
        by (yes h) = omega (arith, behind h, leb-false (length old - suffix_behind (common_prefix old new) old new) (first + 3 * (c - 1)) b)
        by (no h) = omega (arith, whole (omega arith), leb-false (first + 3 * (c - 1) + 3) (common_prefix old new) a)

    -- it keeps its number
    number : (c : ℕ) → 1 ≤ c → (first + 3 * (c - 1) + length new - length old - first) / 3 + 1 ≡ c
    number c h = omega arith

    frame : (c : ℕ) → (first + 3 * (c - 1) + length new - length old) % 3 ≡ first % 3
    frame c = omega arith

    one-behind : (e : Exception) (r : ℕ) → 1 ≤ e.codon → first + 3 * (e.codon - 1) + 3 ≤ length old → excepted (moved_one (common_prefix old new) first old new e) n r ≡ excepted (e ∷ []) n r
    unfolding moved_one in_prefix in_suffix in_frame shifted codon_index codon_number
    one-behind e r numbered inside =
        by (leb (first + 3 * (e.codon - 1) + 3) (common_prefix old new)) refl (leb (length old - suffix_behind (common_prefix old new) old new) (first + 3 * (e.codon - 1))) refl
        (eqb ((first + 3 * (e.codon - 1) + length new - length old) % 3) (first % 3)) refl
      where
        by : (a : Bool) → leb (first + 3 * (e.codon - 1) + 3) (common_prefix old new) ≡ a → (b : Bool) → leb (length old - suffix_behind (common_prefix old new) old new) (first + 3 * (e.codon - 1)) ≡ b
            → (f : Bool) → eqb ((first + 3 * (e.codon - 1) + length new - length old) % 3) (first % 3) ≡ f
            → excepted (if a then e ∷ [] else if b && f then record { codon = (first + 3 * (e.codon - 1) + length new - length old - first) / 3 + 1; residue = e.residue } ∷ [] else []) n r ≡ excepted (e ∷ []) n r
        by true h b k f q = refl
        by false h true k true q = rw (number e.codon numbered)
        by false h true k false q = absurd (eqb-false _ _ q (frame e.codon))
        by false h false k f q = excepted_none n r ∙ sym (excepted_other e n r (λ z. found e.codon z inside h k))

    pub all-behind : (last most : ℕ) (es : List Exception) (r : ℕ) → are_rising last most es ≡ true → first + most * 3 ≤ length old → excepted (moved_all (common_prefix old new) first old new es) n r ≡ excepted es n r
    unfolding moved_all
    all-behind last most [] r h fits = refl
    all-behind last most (e ∷ es) r h fits =
        let this = rising_cons last most e es h in
        excepted-append (moved_one (common_prefix old new) first old new e) (moved_all (common_prefix old new) first old new es) n r
        ∙ all-behind e.codon most es (excepted (moved_one (common_prefix old new) first old new e) n r) this.1 fits
        ∙ ap (excepted es n) (one-behind e r (omega (arith, this.0.above)) (omega (arith, this.0.above, this.0.inside)))
        ∙ sym (excepted-append (e ∷ []) es n r)
