-- Laws of packed letters read to the end: whole codons, then X for a rest. Assumes nothing.
use mathlib.Core.Path.{◌≡◌, refl, sym, ap, ◌∙◌}
use mathlib.Core.List.{List, [], ◌∷◌, ◌++◌, map}
use Prim.Native.Nat.{ℕ, zero, suc, ◌+◌, ◌-◌, ◌*◌, ◌/◌, ◌%◌, ◌≤◌, ◌<◌}
use native.Mathlib.Omega.{arith}
use lib.ListN.{length, take, set, length-map}
use Rattle.rules.specs.Bytes.{byte, over}
use Rattle.rules.specs.Letters.{folded}
use Rattle.rules.specs.Altered.{part}
use Rattle.rules.specs.Translation.{whole_codons, folded_translated}
use Rattle.rules.specs.Packed.{letters_in}
use Rattle.rules.proofs.Parts.{take_part}
use Rattle.rules.proofs.Reading.{rest_of, whole-and-rest}
use Rattle.places.proofs.Residues.{length-plain}
use Rattle.packed.specs.Halves.{codons_at}
use Rattle.halves.proofs.Halves.{length_of_part}

map-take : (f : ℕ → ℕ) (k : ℕ) (s : List ℕ) → map f (take k s) ≡ take k (map f s)
map-take f zero s = refl
map-take f (suc k) [] = refl
map-take f (suc k) (x ∷ s) = ap (λ (l : List ℕ). f x ∷ l) (map-take f k s)

-- one byte more behind what was written
put_behind : (p d : List ℕ) (x : ℕ) → length p < length d → set (over p d) (length p) x ≡ over (p ++ (x ∷ [])) d
unfolding over
put_behind [] [] x h = absurd (omega arith)
put_behind [] (y ∷ d) x h = refl
put_behind (q ∷ p) [] x h = absurd (omega arith)
put_behind (q ∷ p) (y ∷ d) x h = ap (λ (l : List ℕ). q ∷ l) (put_behind p d x (omega arith))

rest_some : (r : ℕ) → (r ≡ 0 → ⊥) → rest_of r ≡ byte "X" ∷ []
rest_some zero n = absurd (n refl)
rest_some (suc r) n = refl

module _ (t first end : ℕ) (bs : List ℕ) (h : first ≤ end) (fits : end ≤ length bs * 2) where
  long : length (part first end (letters_in bs)) ≡ end - first
  long = length_of_part first end bs fits

  whole_is : whole_codons (part first end (letters_in bs)) ≡ codons_at first ((end - first) / 3) bs
  unfolding whole_codons codons_at
  whole_is =
      let few : length (part first end (letters_in bs)) - length (part first end (letters_in bs)) % 3 ≡ (end - first) / 3 * 3 = rw long (omega arith) in
      rw few (take_part ((end - first) / 3 * 3) first end (letters_in bs) (omega arith))

  parts : folded_translated t [] (part first end (letters_in bs)) ≡ folded_translated t [] (codons_at first ((end - first) / 3) bs) ++ rest_of ((end - first) % 3)
  unfolding folded_translated whole_codons
  parts =
      let s : List ℕ = part first end (letters_in bs) in
      let many : length (map folded s) ≡ end - first = length-map s folded ∙ long in
      let few : length s - length s % 3 ≡ length (map folded s) - length (map folded s) % 3 = rw (many, long) in
      whole-and-rest t [] (map folded s)
      ∙ rw (many, ← whole_is, map-take folded (length s - length s % 3) s, long)

  pub read_whole : (end - first) % 3 ≡ 0 → (out d : List ℕ) → out ≡ over (folded_translated t [] (codons_at first ((end - first) / 3) bs)) d
      → out ≡ over (folded_translated t [] (part first end (letters_in bs))) d
  unfolding codons_at
  read_whole none out d is =
      let at : first + (end - first) / 3 * 3 ≡ end = omega arith in
      is ∙ ap (λ (k : ℕ). over (folded_translated t [] (part first k (letters_in bs))) d) at

  length-codes : length (folded_translated t [] (codons_at first ((end - first) / 3) bs)) ≡ (end - first) / 3
  unfolding codons_at
  length-codes =
      length-plain t [] (codons_at first ((end - first) / 3) bs)
      ∙ ap (λ (n : ℕ). (n + 2) / 3) (length_of_part first (first + (end - first) / 3 * 3) bs (omega arith))
      ∙ omega arith

  pub read-rest : ((end - first) % 3 ≡ 0 → ⊥) → (out d : List ℕ) → (end - first) / 3 < length d → out ≡ over (folded_translated t [] (codons_at first ((end - first) / 3) bs)) d
      → set out ((end - first) / 3) (byte "X") ≡ over (folded_translated t [] (part first end (letters_in bs))) d
  read-rest some out d room is =
      let p : List ℕ = folded_translated t [] (codons_at first ((end - first) / 3) bs) in
      ap (λ (l : List ℕ). set l ((end - first) / 3) (byte "X")) is
      ∙ ap (λ (n : ℕ). set (over p d) n (byte "X")) (sym length-codes)
      ∙ put_behind p d (byte "X") (omega (arith, length-codes))
      ∙ ap (λ (l : List ℕ). over (p ++ l) d) (sym (rest_some ((end - first) % 3) some))
      ∙ ap (λ (l : List ℕ). over l d) (sym parts)
