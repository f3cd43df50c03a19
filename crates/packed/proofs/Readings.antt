-- Laws of the two forms of letters: what is read of packed bytes is read of the letters that they hold. Assumes nothing.
use mathlib.Core.Path.{◌≡◌, refl, sym, ap, ◌∙◌}
use mathlib.Core.Bool.{Bool, true, false}
use mathlib.Core.List.{List, ◌++◌}
use Prim.Native.Nat.{ℕ, zero, suc, ◌-◌, ◌*◌, ◌≤◌, ◌<◌}
use native.Mathlib.Omega.{arith}
use lib.Dec.{eqb}
use lib.ListN.{length, get_or, take, drop, length-drop, take-append-drop}
use lib.Seq.{take-append-le, drop-append-le, get_or-take}
use borrow.Author.Tests.{ltb-true, eqb-true, eq-eqb}
use Rattle.rules.specs.declared.Form.{Form}
use Rattle.rules.specs.declared.Form.TheVariants.{Packed}
use Rattle.rules.specs.Bytes.{all}
use Rattle.rules.specs.Letters.{letter_set, is_letter}
use Rattle.rules.specs.Altered.{part}
use Rattle.rules.specs.Packed.{set_at, letter_of, letters_in, half_up, letters_by}
use Rattle.rules.proofs.Lists.{all_at}
use Rattle.rules.proofs.Packed.{uncounted, length-unpacked, held}
use Rattle.halves.proofs.Sizes.{packed-is}
use Rattle.halves.proofs.Halves.{letter_in, set_of_lem, set_small}

part_front : (from to : ℕ) (a b : List ℕ) → from ≤ to → to ≤ length a → part from to (a ++ b) ≡ part from to a
unfolding part
part_front from to a b h g =
    rw (drop-append-le from a b (omega arith)) (take-append-le (to - from) (drop from a) b (rw length-drop (omega arith)))

part_none : (from to : ℕ) (a b : List ℕ) → to ≡ 0 → part from to a ≡ part from to b
unfolding part
part_none from to a b h =
    let few : to - from ≡ 0 = omega arith in
    rw few

module _ (f : Form) (n : ℕ) (s : List ℕ) (e : f ≡ Packed n) where
  -- where there are letters, their number is that of the bytes
  pub packed-count : 0 < length (letters_by f s) → (0 < n) × (length s ≡ half_up n)
  packed-count some = by (eqb (length s) (half_up n)) refl
    where
      by : (t : Bool) → eqb (length s) (half_up n) ≡ t → (0 < n) × (length s ≡ half_up n)
      by true h = (omega (arith, ap length (packed-is f n s e), length-unpacked n s h), eqb-true (length s) (half_up n) h)
      by false h = absurd (omega (arith, ap length (packed-is f n s e), ap length (uncounted n s h)))

  module _ (to : ℕ) (g : to ≤ length (letters_by f s)) where
    pub packed-fits : to ≤ length s * 2
    packed-fits = by to refl
      where
        by : (k : ℕ) → to ≡ k → to ≤ length s * 2
        by zero h = omega arith
        by (suc k) h =
            let c = packed-count (omega arith) in
            omega (arith, c.1, ap length (packed-is f n s e), length-unpacked n s (eq-eqb (length s) (half_up n) c.1))

    module _ (letters : all is_letter (letters_by f s) ≡ true) where
      whole : 0 < to → letters_by f s ≡ take n (letters_in s)
      whole h = (packed-is f n s e) ∙ held n s (omega (arith, ap length (packed-is f n s e))) (rw (packed-is f n s e) at letters)

      -- a part of what packed bytes hold, whatever their number of letters
      pub packed-part : (from : ℕ) → from ≤ to → part from to (letters_in s) ≡ part from to (letters_by f s)
      packed-part from h = by to refl
        where
          by : (k : ℕ) → to ≡ k → part from to (letters_in s) ≡ part from to (letters_by f s)
          by zero z = part_none from to (letters_in s) (letters_by f s) z
          by (suc k) z =
              let is : letters_by f s ≡ take n (letters_in s) = whole (omega arith) in
              ap (part from to) (sym (take-append-drop n (letters_in s)))
              ∙ part_front from to (take n (letters_in s)) (drop n (letters_in s)) h (rw is at g)
              ∙ ap (part from to) (sym is)

      -- the letter at a place before `to`
      pub packed-letter : (k : ℕ) → k < to → letter_of (set_at s k) ≡ get_or (letters_by f s) k 0
      packed-letter k h =
          let is : letters_by f s ≡ take n (letters_in s) = whole (omega arith) in
          let c = packed-count (omega arith) in
          let below : k < n = omega (arith, ap length (packed-is f n s e), length-unpacked n s (eq-eqb (length s) (half_up n) c.1)) in
          sym (ap (λ (l : List ℕ). get_or l k 0) is ∙ get_or-take n (letters_in s) k 0 below ∙ letter_in s k)

      pub packed-set : (k : ℕ) → k < to → set_at s k ≡ letter_set (get_or (letters_by f s) k 0)
      packed-set k h = sym (ap letter_set (sym (packed-letter k h)) ∙ set_of_lem (set_at s k) (set_small s k))

-- a letter's set isn't empty
pub set_some : (f : Form) (s : List ℕ) (k : ℕ) → all is_letter (letters_by f s) ≡ true → k < length (letters_by f s) → (x : ℕ) → x ≡ letter_set (get_or (letters_by f s) k 0) → 0 < x
unfolding is_letter
set_some f s k h g x is = rw is (ltb-true 0 (letter_set (get_or (letters_by f s) k 0)) (all_at is_letter (letters_by f s) k h g))
