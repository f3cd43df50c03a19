-- Laws of `starts_with` and `is_arrow`, and `verb` from what the parsers below answer.
-- Assumes nothing.
use Rattle.std.specs.Prelude.{if◌then◌else◌, None, Some}
use Rattle.std.specs.Prelude.{Option as Returned}
use Rattle.std.proofs.lemmas.Bool.Decides.{nat_tests}
use Rattle.std.specs.Cmp.Lexicographic.{pointwise}
use mathlib.Core.Path.{◌≡◌, refl, sym, ap, ◌∙◌}
use mathlib.Core.Bool.{Bool, true, false, ◌&&◌}
use mathlib.Core.List.{List, [], ◌∷◌}
use mathlib.Core.Option.{none}
use Prim.Native.Nat.{ℕ, ◌+◌, ◌-◌, ◌≤◌}
use native.Mathlib.Omega.{arith}
use lib.Dec.{eqb}
use lib.ListN.{length, take, drop, get_or, length-drop}
use lib.Seq.{drop-length, drop-drop}
use Rattle.rules.specs.declared.Kind.{Kind}
use Rattle.rules.specs.declared.Kind.TheVariants.{Substitution, Deletion, Delins, Insertion, Duplication, Inversion, Identity}
use Rattle.rules.specs.Bytes.{bytes, same, is_capital}
use Rattle.rules.specs.Line.{are_capitals, starts_with, is_arrow, verb_of, base_verb, verb}
use Rattle.rules.proofs.Over.{tail-is}
use Rattle.rules.proofs.Tests.{and_left, and_right}
use Rattle.text_verbs.specs.Views.{word_kind, verb_in}

eqb_swap : (x y : ℕ) → eqb x y ≡ eqb y x
eqb_swap x y = grind (arith, nat_tests)

-- std's test of a prefix is the same as of the first bytes
same-pointwise : (t s : List ℕ) → pointwise eqb t s ≡ same s t
unfolding same
same-pointwise [] [] = refl
same-pointwise [] (y ∷ s) = refl
same-pointwise (x ∷ t) [] = refl
same-pointwise (x ∷ t) (y ∷ s) = rw (same-pointwise t s, eqb_swap x y)

pub starts-pointwise : (t s : List ℕ) → pointwise eqb t (take (length t) s) ≡ starts_with t s
unfolding starts_with
starts-pointwise t s = same-pointwise t (take (length t) s)

-- a short word, byte by byte
pub same_one : (s : List ℕ) (a : ℕ) → same s (a ∷ []) ≡ (eqb (length s) 1 && eqb (get_or s 0 0) a)
unfolding same
same_one [] a = refl
same_one (x ∷ []) a = grind (arith, nat_tests)
same_one (x ∷ y ∷ s) a = grind (arith, nat_tests)

pub same_three : (s : List ℕ) (a b c : ℕ) → same s (a ∷ b ∷ c ∷ []) ≡ (eqb (length s) 3 && (eqb (get_or s 0 0) a && (eqb (get_or s 1 0) b && eqb (get_or s 2 0) c)))
unfolding same
same_three [] a b c = refl
same_three (x ∷ []) a b c = grind (arith, nat_tests)
same_three (x ∷ y ∷ []) a b c = grind (arith, nat_tests)
same_three (x ∷ y ∷ z ∷ []) a b c = grind (arith, nat_tests)
same_three (x ∷ y ∷ z ∷ w ∷ s) a b c = grind (arith, nat_tests)

pub arrow_by : (s : List ℕ) → is_arrow s ≡ (eqb (length s) 3 && (eqb (get_or s 1 0) 62 && is_capital (get_or s 0 0) && is_capital (get_or s 2 0)))
unfolding is_arrow
arrow_by [] = refl
arrow_by (a ∷ []) = refl
arrow_by (a ∷ b ∷ []) = refl
arrow_by (a ∷ b ∷ c ∷ []) = refl
arrow_by (a ∷ b ∷ c ∷ d ∷ s) = grind (arith, nat_tests)

never : false ≡ true → ⊥
never e = let z : ◌≡◌ {A = ℕ} 0 1 = cc in omega arith

pub starts_long : (t s : List ℕ) → starts_with t s ≡ true → length t ≤ length s
unfolding starts_with same
starts_long [] s e = omega arith
starts_long (x ∷ t) [] e = absurd (never e)
starts_long (x ∷ t) (y ∷ s) e = let h = starts_long t s (and_right (eqb y x) (same (take (length t) s) t) e) in omega arith

pub arrow_not : (s : List ℕ) → (length s ≡ 3 → ⊥) → false ≡ is_arrow s
unfolding is_arrow
arrow_not [] h = refl
arrow_not (a ∷ []) h = refl
arrow_not (a ∷ b ∷ []) h = refl
arrow_not (a ∷ b ∷ c ∷ []) h = absurd (h refl)
arrow_not (a ∷ b ∷ c ∷ d ∷ s) h = refl

pub arrow_is : (s : List ℕ) → length s ≡ 3 → is_arrow s ≡ (eqb (get_or s 1 0) 62 && is_capital (get_or s 0 0) && is_capital (get_or s 2 0))
unfolding is_arrow
arrow_is [] h = absurd (omega arith)
arrow_is (a ∷ []) h = absurd (omega arith)
arrow_is (a ∷ b ∷ []) h = absurd (omega arith)
arrow_is (a ∷ b ∷ c ∷ []) h = refl
arrow_is (a ∷ b ∷ c ∷ d ∷ s) h = absurd (omega arith)

arrow_long : (s : List ℕ) → is_arrow s ≡ true → 2 ≤ length s
unfolding is_arrow
arrow_long [] e = absurd (never e)
arrow_long (a ∷ []) e = absurd (never e)
arrow_long (a ∷ b ∷ s) e = omega arith

-- a word with bases behind it
abbrev based : List ℕ → List ℕ → Bool
based w s = starts_with w s && are_capitals (drop (length w) s)

-- the verb, from the tests of the part behind the positions
module _ (line : List ℕ) (at : ℕ) where
  abbrev part : List ℕ
  part = take (length line - at) (drop at line)

  -- a test of the part is one of the rest
  test : (f : List ℕ → Bool) (u t : Bool) → u ≡ f part → u ≡ t → f (drop at line) ≡ t
  test f u t q e = ap f (sym (tail-is at line)) ∙ sym q ∙ e

  -- the word that is behind the positions is within the line
  word-within : (n : ℕ) → at ≤ length line → n ≤ length (drop at line) → at + n ≤ length line
  word-within n h k = omega (arith, length-drop at line)

  module _ (u : Bool) (q : u ≡ based (bytes "delins") part) where
    pub base-delins : at ≤ length line → u ≡ true → (verb_in line (Some (record { kind = Delins; at = at + 6 })) ≡ base_verb (drop at line)) × (at + 6 ≤ length line)
    unfolding base_verb
    base-delins h e =
        let t : based (bytes "delins") (drop at line) ≡ true = test (based (bytes "delins")) u true q e in
        (simp t (rw drop-drop), word-within 6 h (starts_long (bytes "delins") (drop at line) (and_left _ _ t)))

    module _ (e : u ≡ false) (u₂ : Bool) (q₂ : u₂ ≡ based (bytes "ins") part) where
      pub base-ins : at ≤ length line → u₂ ≡ true → (verb_in line (Some (record { kind = Insertion; at = at + 3 })) ≡ base_verb (drop at line)) × (at + 3 ≤ length line)
      unfolding base_verb
      base-ins h e₂ =
          let t : based (bytes "ins") (drop at line) ≡ true = test (based (bytes "ins")) u₂ true q₂ e₂ in
          (simp (test (based (bytes "delins")) u false q e, t) (rw drop-drop), word-within 3 h (starts_long (bytes "ins") (drop at line) (and_left _ _ t)))

      module _ (e₂ : u₂ ≡ false) (u₃ : Bool) (q₃ : u₃ ≡ is_arrow part) where
        pub base-arrow : at ≤ length line → u₃ ≡ true → (verb_in line (Some (record { kind = Substitution; at = at + 2 })) ≡ base_verb (drop at line)) × (at + 2 ≤ length line)
        unfolding base_verb
        base-arrow h e₃ =
            let t : is_arrow (drop at line) ≡ true = test is_arrow u₃ true q₃ e₃ in
            (simp (test (based (bytes "delins")) u false q e, test (based (bytes "ins")) u₂ false q₂ e₂, t) (rw drop-drop), word-within 2 h (arrow_long (drop at line) t))

        pub base-none : u₃ ≡ false → none ≡ base_verb (drop at line)
        unfolding base_verb
        base-none e₃ = simp (test (based (bytes "delins")) u false q e, test (based (bytes "ins")) u₂ false q₂ e₂, test is_arrow u₃ false q₃ e₃)

  -- a word that is a kind by itself has no new bases
  module _ (r : Returned Kind) (q : r ≡ word_kind part) where
    of-word : word_kind (drop at line) ≡ r
    of-word = sym (q ∙ ap word_kind (tail-is at line))

    pub verb-word : (k : Kind) → r ≡ Some k → verb_in line (Some (record { kind = k; at = length line })) ≡ verb (drop at line)
    unfolding verb
    verb-word k e = rw (drop-length line) (by (same (drop at line) (bytes "del")) (same (drop at line) (bytes "dup")) (same (drop at line) (bytes "inv")) (same (drop at line) (bytes "=")) (of-word ∙ e))
      where
        by : (t u v w : Bool)
            → (if t then Some Deletion else if u then Some Duplication else if v then Some Inversion else if w then Some Identity else None) ≡ Some k
            → verb_of k []
            ≡ (if t then verb_of Deletion [] else if u then verb_of Duplication [] else if v then verb_of Inversion [] else if w then verb_of Identity [] else base_verb (drop at line))
        by true u v w h = cc
        by false true v w h = cc
        by false false true w h = cc
        by false false false true h = cc
        by false false false false h = cc

    pub verb-based : r ≡ None → base_verb (drop at line) ≡ verb (drop at line)
    unfolding verb
    verb-based e = by (same (drop at line) (bytes "del")) (same (drop at line) (bytes "dup")) (same (drop at line) (bytes "inv")) (same (drop at line) (bytes "=")) (of-word ∙ e)
      where
        by : (t u v w : Bool)
            → (if t then Some Deletion else if u then Some Duplication else if v then Some Inversion else if w then Some Identity else None) ≡ None
            → base_verb (drop at line)
            ≡ (if t then verb_of Deletion [] else if u then verb_of Duplication [] else if v then verb_of Inversion [] else if w then verb_of Identity [] else base_verb (drop at line))
        by true u v w h = cc
        by false true v w h = cc
        by false false true w h = cc
        by false false false true h = cc
        by false false false false h = refl
