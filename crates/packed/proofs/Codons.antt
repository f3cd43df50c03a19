-- Laws of packed codons: their place in the table of 4,096, and a turn of the loop that reads two. Assumes nothing.
use mathlib.Core.Path.{◌≡◌, sym, ap, ◌∙◌}
use mathlib.Core.List.{List, [], map}
use Prim.Native.Nat.{ℕ, ◌+◌, ◌-◌, ◌*◌, ◌/◌, ◌%◌, ◌≤◌, ◌<◌}
use native.Mathlib.Omega.{arith}
use lib.ListN.{length, get_or, set, length-set}
use Rattle.rules.specs.Bytes.{over}
use Rattle.rules.specs.Letters.{folded}
use Rattle.rules.specs.Codons.{codon_rule}
use Rattle.rules.specs.Altered.{part}
use Rattle.rules.specs.Translation.{folded_translated}
use Rattle.rules.proofs.Over.{over_from, from_start, from_end}
use Rattle.codons.specs.Tables.{HoldsCode}
use Rattle.letters.specs.Sets.{folded_set}
use Rattle.places.specs.Places.{codon_at}
use Rattle.places.proofs.Residues.{codon_sets, left_from, left-all, left-rest, codon-turn}
use Rattle.rules.specs.Packed.{set_at, letters_in}
use Rattle.packed.specs.Halves.{codons_at}
use Rattle.halves.proofs.Halves.{high_at, low_at, set_small, folded-set_of, part_at, length_of_part}

-- three halves are a place in the table
module _ (t : ℕ) (lut bs : List ℕ) (holds : HoldsCode t lut) (bytes : (k : ℕ) → get_or bs k 0 < 256) (j : ℕ) where
  pub even-entry : get_or lut ((get_or bs j 0 * 256 + get_or bs (j + 1) 0) / 16) 0 ≡ codon_rule t (set_at bs (j * 2)) (set_at bs (j * 2 + 1)) (set_at bs ((j + 1) * 2))
  even-entry =
      let x : ℕ = get_or bs j 0 in
      let y : ℕ = get_or bs (j + 1) 0 in
      let is : (x * 256 + y) / 16 ≡ x / 16 % 16 * 256 + x % 16 * 16 + y / 16 % 16 = omega (arith, bytes j, bytes (j + 1)) in
      rw (is, high_at bs j, low_at bs j, high_at bs (j + 1)) (holds.entry (x / 16 % 16) (x % 16) (y / 16 % 16) (omega arith) (omega arith) (omega arith))

  pub odd-entry : get_or lut ((get_or bs j 0 * 256 + get_or bs (j + 1) 0) % 4096) 0 ≡ codon_rule t (set_at bs (j * 2 + 1)) (set_at bs ((j + 1) * 2)) (set_at bs ((j + 1) * 2 + 1))
  odd-entry =
      let x : ℕ = get_or bs j 0 in
      let y : ℕ = get_or bs (j + 1) 0 in
      let is : (x * 256 + y) % 4096 ≡ x % 16 * 256 + y / 16 % 16 * 16 + y % 16 = omega (arith, bytes j, bytes (j + 1)) in
      rw (is, low_at bs j, high_at bs (j + 1), low_at bs (j + 1)) (holds.entry (x % 16) (y / 16 % 16) (y % 16) (omega arith) (omega arith) (omega arith))

-- the same three places
pub at_places : (t : ℕ) (bs : List ℕ) (i j k i' j' k' : ℕ) → i ≡ i' → j ≡ j' → k ≡ k' → codon_rule t (set_at bs i) (set_at bs j) (set_at bs k) ≡ codon_rule t (set_at bs i') (set_at bs j') (set_at bs k')
at_places t bs i j k i' j' k' h h' h'' = rw (h, h', h'')

-- the codon of three places among the letters first..end
module _ (t first end : ℕ) (bs : List ℕ) where
  set-in : (k : ℕ) → k < end - first → folded_set (get_or (part first end (letters_in bs)) k 0) ≡ set_at bs (first + k)
  set-in k h =
      ap folded_set (part_at first end bs k h) ∙ folded-set_of (set_at bs (first + k)) (set_small bs (first + k))

  pub codon-in : (i k₀ k₁ k₂ : ℕ) → i * 3 + 3 ≤ end - first → k₀ ≡ first + i * 3 → k₁ ≡ first + (i * 3 + 1) → k₂ ≡ first + (i * 3 + 2)
      → codon_rule t (set_at bs k₀) (set_at bs k₁) (set_at bs k₂) ≡ codon_at t (map folded (part first end (letters_in bs))) i
  codon-in i k₀ k₁ k₂ h e₀ e₁ e₂ =
      rw (codon_sets t (part first end (letters_in bs)) i, set-in (i * 3) (omega arith), set-in (i * 3 + 1) (omega arith), set-in (i * 3 + 2) (omega arith), e₀, e₁, e₂)

module _ (t first n : ℕ) (bs : List ℕ) where
  pub length-codons : first + n * 3 ≤ length bs * 2 → length (codons_at first n bs) ≡ n * 3
  unfolding codons_at
  length-codons h = length_of_part first (first + n * 3) bs h ∙ omega arith

  codon-of : (i k₀ k₁ k₂ : ℕ) → i < n → k₀ ≡ first + i * 3 → k₁ ≡ first + (i * 3 + 1) → k₂ ≡ first + (i * 3 + 2)
      → codon_rule t (set_at bs k₀) (set_at bs k₁) (set_at bs k₂) ≡ codon_at t (map folded (codons_at first n bs)) i
  unfolding codons_at
  codon-of i k₀ k₁ k₂ h e₀ e₁ e₂ = codon-in t first (first + n * 3) bs i k₀ k₁ k₂ (omega arith) e₀ e₁ e₂

  pub codons-all : (out : List ℕ) → over_from 0 (left_from t [] (codons_at first n bs) 0) out ≡ over (folded_translated t [] (codons_at first n bs)) out
  codons-all out =
      ap (λ l. over_from 0 l out) (left-all t [] (codons_at first n bs)) ∙ from_start (folded_translated t [] (codons_at first n bs)) out

  pub codons-from : (m k : ℕ) (out : List ℕ) → m ≡ k → over_from m (left_from t [] (codons_at first n bs) m) out ≡ over_from k (left_from t [] (codons_at first n bs) k) out
  codons-from m k out e = ap (λ (i : ℕ). over_from i (left_from t [] (codons_at first n bs) i) out) e

  module _ (fits : first + n * 3 ≤ length bs * 2) where
    -- no codon is left
    pub codons-end : (out e : List ℕ) (i : ℕ) → i ≡ n → over_from i (left_from t [] (codons_at first n bs) i) out ≡ e → out ≡ e
    codons-end out e i h left =
        let s : List ℕ = codons_at first n bs in
        let long : length s ≡ n * 3 = length-codons fits in
        let none : length s % 3 ≡ 0 = rw long (omega arith) in
        let rest = left-rest t [] s i (rw long (omega arith)) in
        sym (from_end i out) ∙ sym (ap (λ l. over_from i l out) (rw none at rest)) ∙ left

    module _ (i : ℕ) (out e : List ℕ) (v : ℕ) (h : i < n) (room : i < length out) where
      turn : (k₀ k₁ k₂ : ℕ) → k₀ ≡ first + i * 3 → k₁ ≡ first + (i * 3 + 1) → k₂ ≡ first + (i * 3 + 2) → v ≡ codon_rule t (set_at bs k₀) (set_at bs k₁) (set_at bs k₂)
          → over_from i (left_from t [] (codons_at first n bs) i) out ≡ e → over_from (i + 1) (left_from t [] (codons_at first n bs) (i + 1)) (set out i v) ≡ e
      turn k₀ k₁ k₂ e₀ e₁ e₂ is left =
          codon-turn t (codons_at first n bs) i out e v (omega (arith, length-codons fits)) room (is ∙ codon-of i k₀ k₁ k₂ h e₀ e₁ e₂) left

      pub even-turn : (j : ℕ) → j * 2 ≡ first + i * 3 → v ≡ codon_rule t (set_at bs (j * 2)) (set_at bs (j * 2 + 1)) (set_at bs ((j + 1) * 2))
          → over_from i (left_from t [] (codons_at first n bs) i) out ≡ e → over_from (i + 1) (left_from t [] (codons_at first n bs) (i + 1)) (set out i v) ≡ e
      even-turn j at is left = turn (j * 2) (j * 2 + 1) ((j + 1) * 2) at (omega arith) (omega arith) is left

      pub odd-turn : (j : ℕ) → j * 2 + 1 ≡ first + i * 3 → v ≡ codon_rule t (set_at bs (j * 2 + 1)) (set_at bs ((j + 1) * 2)) (set_at bs ((j + 1) * 2 + 1))
          → over_from i (left_from t [] (codons_at first n bs) i) out ≡ e → over_from (i + 1) (left_from t [] (codons_at first n bs) (i + 1)) (set out i v) ≡ e
      odd-turn j at is left = turn (j * 2 + 1) ((j + 1) * 2) ((j + 1) * 2 + 1) at (omega arith) (omega arith) is left

    -- two codons, three bytes
    pub pair_turn : (i : ℕ) (out e : List ℕ) (v w j : ℕ) → i + 1 < n → i + 1 < length out → j * 2 ≡ first + i * 3
        → v ≡ codon_rule t (set_at bs (j * 2)) (set_at bs (j * 2 + 1)) (set_at bs ((j + 1) * 2))
        → w ≡ codon_rule t (set_at bs ((j + 1) * 2 + 1)) (set_at bs ((j + 1 + 1) * 2)) (set_at bs ((j + 1 + 1) * 2 + 1))
        → over_from i (left_from t [] (codons_at first n bs) i) out ≡ e → over_from (i + 2) (left_from t [] (codons_at first n bs) (i + 2)) (set (set out i v) (i + 1) w) ≡ e
    pair_turn i out e v w j h room at is is' left =
        let two : i + 2 ≡ i + 1 + 1 = omega arith in
        rw two
        (odd-turn (i + 1) (set out i v) e w h (rw length-set room) (j + 1) (omega arith) is'
        (even-turn i out e v (omega arith) (omega arith) j at is left))

    -- four codons, six bytes
    pub four-turn : (i : ℕ) (out e : List ℕ) (u v w x j : ℕ) → i + 2 + 1 < n → i + 2 + 1 < length out → j * 2 ≡ first + i * 3
        → u ≡ codon_rule t (set_at bs (j * 2)) (set_at bs (j * 2 + 1)) (set_at bs ((j + 1) * 2))
        → v ≡ codon_rule t (set_at bs ((j + 1) * 2 + 1)) (set_at bs ((j + 1 + 1) * 2)) (set_at bs ((j + 1 + 1) * 2 + 1))
        → w ≡ codon_rule t (set_at bs ((j + 3) * 2)) (set_at bs ((j + 3) * 2 + 1)) (set_at bs ((j + 3 + 1) * 2))
        → x ≡ codon_rule t (set_at bs ((j + 3 + 1) * 2 + 1)) (set_at bs ((j + 3 + 1 + 1) * 2)) (set_at bs ((j + 3 + 1 + 1) * 2 + 1))
        → over_from i (left_from t [] (codons_at first n bs) i) out ≡ e
        → over_from (i + 2 + 2) (left_from t [] (codons_at first n bs) (i + 2 + 2)) (set (set (set (set out i u) (i + 1) v) (i + 2) w) (i + 2 + 1) x) ≡ e
    four-turn i out e u v w x j h room at is is' is'' is''' left =
        pair_turn (i + 2) (set (set out i u) (i + 1) v) e w x (j + 3) h (simp length-set room) (omega arith) is'' is'''
        (pair_turn i out e u v j (omega arith) (omega arith) at is is' left)
