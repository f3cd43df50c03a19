-- Laws of letters written two at a time. Assumes nothing.
use mathlib.Core.Path.{◌≡◌, sym, ap, ◌∙◌}
use mathlib.Core.List.{List, [], ◌∷◌}
use Prim.Native.Nat.{ℕ, ◌+◌, ◌-◌, ◌*◌, ◌/◌, ◌%◌, ◌≤◌, ◌<◌}
use native.Mathlib.Numerals.{add-one}
use native.Mathlib.Omega.{arith}
use lib.ListN.{length, get_or, drop, set, length-set, drop_of_length-le}
use lib.Seq.{drop-cons}
use Rattle.rules.specs.Bytes.{over}
use Rattle.rules.specs.Altered.{part}
use Rattle.rules.proofs.Over.{over_from, from_start, from_end, from_turn}
use Rattle.letters.proofs.Listed.{listed, listed_at}
use Rattle.rules.specs.Packed.{set_at, letter_of, letters_in}
use Rattle.packed.specs.Halves.{HoldsPairs}
use Rattle.halves.proofs.Halves.{high_at, low_at, set_small, letter_small, part_at, length_of_part}

abbrev pub pair_of : ℕ → ℕ
pair_of b = letter_of (b / 16 % 16) + letter_of (b % 16) * 256

pub holds_pairs : HoldsPairs (listed pair_of 0 256)
holds_pairs = record { entry = λ b h. listed_at 0 pair_of 256 b h }

-- the two letters of an entry
module _ (xs bs : List ℕ) (holds : HoldsPairs xs) (j : ℕ) (byte : get_or bs j 0 < 256) where
  entry-is : get_or xs (get_or bs j 0) 0 ≡ letter_of (set_at bs (j * 2)) + letter_of (set_at bs (j * 2 + 1)) * 256
  entry-is = rw (high_at bs j, low_at bs j) (holds.entry (get_or bs j 0) byte)

  pub first-letter : get_or xs (get_or bs j 0) 0 % 256 ≡ letter_of (set_at bs (j * 2))
  first-letter = omega (arith, entry-is, letter_small (set_at bs (j * 2)) (set_small bs (j * 2)))

  pub second-letter : get_or xs (get_or bs j 0) 0 / 256 ≡ letter_of (set_at bs (j * 2 + 1))
  second-letter = omega (arith, entry-is, letter_small (set_at bs (j * 2)) (set_small bs (j * 2)))

module _ (from to : ℕ) (bs : List ℕ) (fits : to ≤ length bs * 2) where
  pub letters-all : (out : List ℕ) → over_from 0 (drop 0 (part from to (letters_in bs))) out ≡ over (part from to (letters_in bs)) out
  letters-all out = from_start (part from to (letters_in bs)) out

  pub letters-from : (m k : ℕ) (out : List ℕ) → m ≡ k → over_from m (drop m (part from to (letters_in bs))) out ≡ over_from k (drop k (part from to (letters_in bs))) out
  letters-from m k out e = ap (λ (i : ℕ). over_from i (drop i (part from to (letters_in bs))) out) e

  pub letters-end : (i : ℕ) (out e : List ℕ) → to - from ≤ i → over_from i (drop i (part from to (letters_in bs))) out ≡ e → out ≡ e
  letters-end i out e h left =
      let p : List ℕ = part from to (letters_in bs) in
      let none : drop i p ≡ [] = drop_of_length-le p {i = i} (omega (arith, length_of_part from to bs fits)) in
      sym (from_end i out) ∙ sym (ap (λ l. over_from i l out) none) ∙ left

  -- a turn stores the letter of its place
  pub letter-turn : (i : ℕ) (out e : List ℕ) (v k : ℕ) → i < to - from → i < length out → k ≡ from + i → v ≡ letter_of (set_at bs k)
      → over_from i (drop i (part from to (letters_in bs))) out ≡ e → over_from (i + 1) (drop (i + 1) (part from to (letters_in bs))) (set out i v) ≡ e
  letter-turn i out e v k h room at is left =
      let p : List ℕ = part from to (letters_in bs) in
      let there : get_or p i 0 ≡ v = part_at from to bs i h ∙ sym (rw at at is) in
      let more : drop i p ≡ v ∷ drop (i + 1) p = rw (add-one, ← there) (drop-cons p i 0 (omega (arith, length_of_part from to bs fits))) in
      from_turn i v (drop i p) (drop (i + 1) p) out e room more left

  -- and two of them
  pub both-turn : (i : ℕ) (out e : List ℕ) (v w j : ℕ) → i + 1 < to - from → i + 1 < length out → j * 2 ≡ from + i → v ≡ letter_of (set_at bs (j * 2)) → w ≡ letter_of (set_at bs (j * 2 + 1))
      → over_from i (drop i (part from to (letters_in bs))) out ≡ e → over_from (i + 2) (drop (i + 2) (part from to (letters_in bs))) (set (set out i v) (i + 1) w) ≡ e
  both-turn i out e v w j h room at is is' left =
      let two : i + 2 ≡ i + 1 + 1 = omega arith in
      rw two
      (letter-turn (i + 1) (set out i v) e w (j * 2 + 1) h (rw length-set room) (omega arith) is'
      (letter-turn i out e v (j * 2) (omega arith) (omega arith) at is left))
