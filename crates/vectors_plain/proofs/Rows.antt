-- Laws of a count and of a row of letters, at a place of a loop.
-- Assumes nothing.
use mathlib.Core.Path.{◌≡◌, refl, sym, ap}
use mathlib.Core.List.{List, [], ◌∷◌, append-nil}
use Prim.Native.Nat.{ℕ, zero, suc, ◌+◌, ◌-◌, ◌≤◌, ◌<◌}
use native.Mathlib.Numerals.{add-one}
use native.Mathlib.Omega.{arith}
use lib.ListN.{length, drop, get_or, drop_of_length-le}
use lib.Seq.{drop-cons}
use borrow.Author.Tests.{eq-eqb, ne_eqb}
use Rattle.rules.specs.Bytes.{count, over}
use Rattle.rules.proofs.Over.{over_from}
use Rattle.vectors_plain.specs.Rows.{letter_at, letters_from}

module _ (b : ℕ) (s : List ℕ) (i : ℕ) where
  pub count-more : i < length s → get_or s i 0 ≡ b → count b (drop i s) ≡ suc (count b (drop (i + 1) s))
  unfolding count
  count-more h e = rw (add-one, drop-cons s i 0 h) (simp (eq-eqb b (get_or s i 0) (sym e)))

  pub count_less : i < length s → (get_or s i 0 ≡ b → ⊥) → count b (drop i s) ≡ count b (drop (i + 1) s)
  unfolding count
  count_less h e = rw (add-one, drop-cons s i 0 h) (simp (ne_eqb b (get_or s i 0) (λ (q : b ≡ get_or s i 0). e (sym q))))

  pub count-end : length s ≤ i → count b (drop i s) ≡ 0
  unfolding count
  count-end h = rw (drop_of_length-le s {i = i} h)

pub letters_more : (j n : ℕ) → j < n → letters_from j (n - j) ≡ letter_at j ∷ letters_from (j + 1) (n - (j + 1))
unfolding letters_from
letters_more j n h = let one : n - j ≡ suc (n - (j + 1)) = omega arith in rw (one, add-one)

pub letters_none : (j n : ℕ) → n ≤ j → letters_from j (n - j) ≡ []
unfolding letters_from
letters_none j n h = let none : n - j ≡ 0 = omega arith in rw none

pub letters-length : (j n : ℕ) → length (letters_from j n) ≡ n
unfolding letters_from
letters-length j zero = refl
letters-length j (suc n) = ap suc (letters-length (suc j) n)

-- what is as long as the buffer is all that it holds
pub over-letters : (n : ℕ) (d : List ℕ) → length d ≡ n → over_from 0 (letters_from 0 (n - 0)) d ≡ letters_from 0 n
unfolding over_from over
over-letters n d h =
    let whole : n - 0 ≡ n = omega arith in
    rw (whole, letters-length 0 n, drop_of_length-le d {i = n} (omega arith)) (append-nil (letters_from 0 n))
