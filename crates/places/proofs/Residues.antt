-- Laws of residues that a loop has still to write, a turn at a time. Assumes nothing.
use mathlib.Core.Path.{◌≡◌, refl, sym, ap, ◌∙◌}
use mathlib.Core.Bool.{Bool, true, and-eq-true_iff}
use mathlib.Core.List.{List, [], ◌∷◌, ◌++◌, map}
use Prim.Native.Nat.{ℕ, zero, suc, ◌+◌, ◌-◌, ◌*◌, ◌/◌, ◌%◌, ◌≤◌, ◌<◌}
use native.Mathlib.Omega.{arith}
use lib.ListN.{length, get_or, take, drop, set, length-set, length-map, length-drop, get_or-map}
use lib.Seq.{get_or-take, length-take-le, take-add}
use Rattle.rules.specs.declared.Exception.{Exception}
use Rattle.rules.specs.Bytes.{byte, all}
use Rattle.rules.specs.Letters.{is_letter, upper, folded}
use Rattle.rules.specs.Codons.{codon_rule, codon}
use Rattle.rules.specs.Translation.{excepted, residues_from, translated, residue_count, folded_translated, whole_codons, fold_to_letters}
use Rattle.rules.proofs.Lists.{all_at, all_append, all_map}
use Rattle.rules.proofs.Over.{over_from, from_end, from_turn}
use Rattle.rules.proofs.Translation.{length-residues}
use Rattle.rules.proofs.Reading.{rest_of, residues-more, residues-rest}
use Rattle.letters.specs.Sets.{folded_set, folds_to_base}
use Rattle.letters.proofs.Sets.{plain_some}
use Rattle.places.specs.Places.{codon_at, fold_to_bases}

pub plain_at_lem : (s : List ℕ) (k : ℕ) → get_or (map folded s) k 0 ≡ folded (get_or s k 0)
unfolding upper folded
plain_at_lem s k = get_or-map folded s k 0

pub codon_sets : (t : ℕ) (s : List ℕ) (i : ℕ) → codon_at t (map folded s) i ≡ codon_rule t (folded_set (get_or s (i * 3) 0)) (folded_set (get_or s (i * 3 + 1) 0)) (folded_set (get_or s (i * 3 + 2) 0))
unfolding codon_at codon folded_set
codon_sets t s i = rw (plain_at_lem s (i * 3), plain_at_lem s (i * 3 + 1), plain_at_lem s (i * 3 + 2))

-- a byte of a whole codon passes what all of them pass
whole_at : (p : ℕ → Bool) (s : List ℕ) (k : ℕ) → all p (whole_codons s) ≡ true → k < length s / 3 * 3 → p (get_or s k 0) ≡ true
unfolding whole_codons
whole_at p s k e h =
    let n : ℕ = length s - length s % 3 in
    let long : length (take n s) ≡ n = length-take-le n s (omega arith) in
    ap p (sym (get_or-take n s k 0 (omega arith))) ∙ all_at p (take n s) k e (omega arith)

pub letter_at_lem : (s : List ℕ) (k : ℕ) → fold_to_letters s ≡ true → k < length s / 3 * 3 → is_letter (folded (get_or s k 0)) ≡ true
unfolding fold_to_letters
letter_at_lem s k e h = whole_at (λ b. is_letter (folded b)) s k (sym (all_map is_letter folded (whole_codons s)) ∙ e) h

pub base_at_lem : (s : List ℕ) (k : ℕ) → fold_to_bases s ≡ true → k < length s / 3 * 3 → folds_to_base (get_or s k 0) ≡ true
unfolding fold_to_bases
base_at_lem s k e h = whole_at folds_to_base s k e h

-- what is read there is a set that isn't empty
pub set_there : (s : List ℕ) (k : ℕ) {r : ℕ} → fold_to_letters s ≡ true → k < length s / 3 * 3 → (r ≡ folded_set (get_or s k 0)) × (r < 16) → (0 < r) × (r < 16)
set_there s k e h is = (rw is.0 (plain_some (get_or s k 0) (letter_at_lem s k e h)), is.1)

-- the residues from codon i on, counted from 0
unfoldable pub left_from : ℕ → List Exception → List ℕ → ℕ → List ℕ
left_from t es s i = residues_from t es (i + 1) (drop (i * 3) (map folded s))

module _ (t : ℕ) (es : List Exception) (s : List ℕ) where
  pub length-plain : length (folded_translated t es s) ≡ (length s + 2) / 3
  unfolding folded_translated translated residue_count
  length-plain = length-residues t es 1 (map folded s) ∙ ap (λ (n : ℕ). (n + 2) / 3) (length-map s folded)

  pub left-all : left_from t es s 0 ≡ folded_translated t es s
  unfolding left_from folded_translated translated
  left-all = refl

  pub left-more : (i : ℕ) → i < length s / 3 → left_from t es s i ≡ excepted es (i + 1) (codon_at t (map folded s) i) ∷ left_from t es s (i + 1)
  unfolding left_from codon_at
  left-more i h = residues-more t es (map folded s) i (rw length-map h)

  pub left-rest : (i : ℕ) → i ≡ length s / 3 → left_from t es s i ≡ rest_of (length s % 3)
  unfolding left_from
  left-rest i e =
      residues-rest t es (map folded s) i (i + 1) (rw length-map e) ∙ ap (λ (n : ℕ). rest_of (n % 3)) (length-map s folded)

-- without exceptions
pub left_codon : (t : ℕ) (s : List ℕ) (i : ℕ) → i < length s / 3 → left_from t [] s i ≡ codon_at t (map folded s) i ∷ left_from t [] s (i + 1)
unfolding excepted
left_codon t s i h = left-more t [] s i h

-- without exceptions it doesn't matter at which number the codons begin
any-number : (t n m : ℕ) (s : List ℕ) → residues_from t [] n s ≡ residues_from t [] m s
unfolding excepted residues_from
any-number t n m [] = refl
any-number t n m (a ∷ []) = refl
any-number t n m (a ∷ b ∷ []) = refl
any-number t n m (a ∷ b ∷ c ∷ s) = ap (λ (l : List ℕ). codon t a b c ∷ l) (any-number t (suc n) (suc m) s)

map-drop : (f : ℕ → ℕ) (k : ℕ) (s : List ℕ) → map f (drop k s) ≡ drop k (map f s)
map-drop f zero s = refl
map-drop f (suc k) [] = refl
map-drop f (suc k) (x ∷ s) = map-drop f k s

-- the part from codon i on
pub left_part : (t : ℕ) (s : List ℕ) (i : ℕ) → folded_translated t [] (drop (i * 3) s) ≡ left_from t [] s i
unfolding folded_translated translated left_from
left_part t s i = ap (residues_from t [] 1) (map-drop folded (i * 3) s) ∙ any-number t 1 (i + 1) (drop (i * 3) (map folded s))

pub bases-part : (s : List ℕ) (i : ℕ) → i ≤ length s / 3 → fold_to_bases s ≡ true → fold_to_bases (drop (i * 3) s) ≡ true
unfolding fold_to_bases whole_codons
bases-part s i h e =
    let u : List ℕ = drop (i * 3) s in
    let n : ℕ = length u - length u % 3 in
    let whole : length s - length s % 3 ≡ i * 3 + n = omega (arith, length-drop (i * 3) s) in
    let split : take (length s - length s % 3) s ≡ take (i * 3) s ++ take n u = ap (λ (k : ℕ). take k s) whole ∙ take-add (i * 3) n s in
    ((and-eq-true_iff (all folds_to_base (take (i * 3) s)) (all folds_to_base (take n u))).0 (sym (all_append folds_to_base (take (i * 3) s) (take n u)) ∙ ap (all folds_to_base) (sym split) ∙ e)).1

-- the buffer where no byte remains, and where one does
rest_some : (r : ℕ) → (r ≡ 0 → ⊥) → rest_of r ≡ byte "X" ∷ []
rest_some zero n = absurd (n refl)
rest_some (suc r) n = refl

module _ (k r : ℕ) (out e : List ℕ) (left : over_from k (rest_of r) out ≡ e) where
  pub no-rest : r ≡ 0 → out ≡ e
  no-rest z = sym (from_end k out) ∙ ap (λ (n : ℕ). over_from k (rest_of n) out) (sym z) ∙ left

  pub with_rest : (r ≡ 0 → ⊥) → k < length out → set out k (byte "X") ≡ e
  with_rest n h = sym (from_end (k + 1) (set out k (byte "X"))) ∙ from_turn k (byte "X") (rest_of r) [] out e h (rest_some r n) left

module _ (t : ℕ) (s : List ℕ) (i : ℕ) (out e : List ℕ) where
  -- a turn stores the residue of its codon
  pub codon-turn : (v : ℕ) → i < length s / 3 → i < length out → v ≡ codon_at t (map folded s) i → over_from i (left_from t [] s i) out ≡ e → over_from (i + 1) (left_from t [] s (i + 1)) (set out i v) ≡ e
  codon-turn v h k is left =
      from_turn i v (left_from t [] s i) (left_from t [] s (i + 1)) out e k (left_codon t s i h ∙ ap (λ (r : ℕ). r ∷ left_from t [] s (i + 1)) (sym is)) left

  -- behind the last turn
  pub last_turn : (es : List Exception) → i ≡ length s / 3 → over_from i (left_from t es s i) out ≡ e → over_from (length s / 3) (rest_of (length s % 3)) out ≡ e
  last_turn es h left = rw (← left-rest t es s i h, ← h) left

-- a turn that stores two, and one that stores four
pair_turn : (t : ℕ) (s : List ℕ) (i : ℕ) (out e : List ℕ) (v w : ℕ) → i + 1 < length s / 3 → i + 1 < length out → v ≡ codon_at t (map folded s) i → w ≡ codon_at t (map folded s) (i + 1)
    → over_from i (left_from t [] s i) out ≡ e → over_from (i + 2) (left_from t [] s (i + 2)) (set (set out i v) (i + 1) w) ≡ e
pair_turn t s i out e v w h k is is' left =
    let two : i + 2 ≡ i + 1 + 1 = omega arith in
    rw two (codon-turn t s (i + 1) (set out i v) e w h (rw length-set k) is' (codon-turn t s i out e v (omega arith) (omega arith) is left))

pub four-turn : (t : ℕ) (s : List ℕ) (i : ℕ) (out e : List ℕ) (v w x y : ℕ) → i + 3 < length s / 3 → i + 3 < length out
    → v ≡ codon_at t (map folded s) i → w ≡ codon_at t (map folded s) (i + 1) → x ≡ codon_at t (map folded s) (i + 2) → y ≡ codon_at t (map folded s) (i + 2 + 1)
    → over_from i (left_from t [] s i) out ≡ e → over_from (i + 4) (left_from t [] s (i + 4)) (set (set (set (set out i v) (i + 1) w) (i + 2) x) (i + 3) y) ≡ e
four-turn t s i out e v w x y h k is is' is'' is''' left =
    let three : i + 3 ≡ i + 2 + 1 = omega arith in
    let four : i + 4 ≡ i + 2 + 2 = omega arith in
    rw (four, three)
    (pair_turn t s (i + 2) (set (set out i v) (i + 1) w) e x y (omega arith) (rw (length-set, length-set) (omega arith)) is'' is'''
    (pair_turn t s i out e v w (omega arith) (omega arith) is is' left))
