-- Laws of the rows that loops write: letters by rule, letters laid over others, exceptions.
-- Assumes nothing.
use Rattle.std.specs.Prelude.{if◌then◌else◌}
use mathlib.Core.Path.{◌≡◌, refl, sym, ap, ◌∙◌}
use mathlib.Core.Bool.{Bool, true, false}
use mathlib.Core.List.{List, [], ◌∷◌, ◌++◌, append-nil, append_assoc}
use Prim.Native.Nat.{ℕ, zero, suc, ◌+◌, ◌-◌, ◌*◌, ◌≤◌, ◌<◌, min}
use native.Mathlib.Numerals.{add-one}
use native.Mathlib.Decide.{dec_le}
use native.Mathlib.Omega.{arith}
use lib.Dec.{eqb, ltb}
use lib.ListN.{length, take, drop, get_or, set, replicate, length-replicate, length-append, length-drop, take-append-drop, drop_of_length-le}
use lib.Seq.{drop-cons, take-suc-set, drop-set-lt, length-take-le}
use borrow.Author.Tests.{lt-ltb}
use borrow.Rule.Slice.PartMut.{put_mid}
use Rattle.rules.specs.declared.Exception.{Exception}
use Rattle.rules.specs.declared.Exceptions.{Exceptions}
use Rattle.rules.specs.Bytes.{bytes, over}
use Rattle.rules.specs.Translation.{no_exception}
use Rattle.rules.proofs.Over.{tail-is}
use Rattle.vectors_calls.specs.Fields.{field_at, word_at, number_at}
use Rattle.vectors_calls.specs.Letters.{next, filled, laid, laid_at, place_before, coding_in, reference_in, new_in}
use Rattle.vectors_calls.specs.Given.{by_rule, listed, exception_at, exceptions_from, exceptions_of}

-- letters by rule
pub filled-length : (a b x n : ℕ) → length (filled a b x n) ≡ n
unfolding filled
filled-length a b x zero = refl
filled-length a b x (suc n) = ap suc (filled-length a b (next x) n)

pub filled_more : (a b x n i : ℕ) → i < n → filled a b x (n - i) ≡ (if ltb x 32768 then a else b) ∷ filled a b (next x) (n - (i + 1))
unfolding filled
filled_more a b x n i h = let one : n - i ≡ suc (n - (i + 1)) = omega arith in rw one

pub filled_none : (a b x n i : ℕ) → n ≤ i → filled a b x (n - i) ≡ []
unfolding filled
filled_none a b x n i h = let none : n - i ≡ 0 = omega arith in rw none

-- what is as long as the buffer is all that it holds
pub over_whole : (p d : List ℕ) → length d ≤ length p → over p d ≡ p
unfolding over
over_whole p d h = rw (drop_of_length-le d {i = length p} h) (append-nil p)

-- letters laid over others, those passed apart from those to come
pub laid-start : (w s : List ℕ) → take 0 s ++ laid (drop 0 w) (drop 0 s) ≡ laid w s
laid-start w s = refl

laid_none : (s : List ℕ) → laid [] s ≡ s
unfolding laid
laid_none [] = refl
laid_none (x ∷ s) = refl

laid_nothing : (w : List ℕ) → laid w [] ≡ []
unfolding laid
laid_nothing w = refl

pub laid_turn : (i v : ℕ) (w s t : List ℕ) → i < length s → i < length w → v ≡ (if ltb 45 (get_or w i 0) then get_or w i 0 else get_or s i 0)
    → take i s ++ laid (drop i w) (drop i s) ≡ t → take (i + 1) (set s i v) ++ laid (drop (i + 1) w) (drop (i + 1) (set s i v)) ≡ t
unfolding laid
laid_turn i v w s t h k e q =
    rw (add-one, take-suc-set s i v h, drop-set-lt (suc i) s i v (omega arith), e)
    (append_assoc (take i s) ((if ltb 45 (get_or w i 0) then get_or w i 0 else get_or s i 0) ∷ []) (laid (drop (suc i) w) (drop (suc i) s))
    ∙ rw (drop-cons w i 0 k, drop-cons s i 0 h) at q)

pub laid_end : (i : ℕ) (w s t : List ℕ) → min (length s) (length w) ≤ i → take i s ++ laid (drop i w) (drop i s) ≡ t → s ≡ t
laid_end i w s t h q = by (dec_le (length w) i)
  where
    by : Dec (length w ≤ i) → s ≡ t
    by (yes k) = sym (take-append-drop i s) ∙ ap (λ (l : List ℕ). take i s ++ l) (sym (laid_none (drop i s)) ∙ ap (λ (l : List ℕ). laid l (drop i s)) (sym (drop_of_length-le w {i = i} k))) ∙ q
    by (no k) =
        let none : drop i s ≡ [] = drop_of_length-le s {i = i} (omega arith) in
        sym (take-append-drop i s) ∙ ap (λ (l : List ℕ). take i s ++ l) (none ∙ sym (laid_nothing (drop i w)) ∙ ap (laid (drop i w)) (sym none)) ∙ q

pub laid-length : (w s : List ℕ) → length (laid w s) ≡ length s
unfolding laid
laid-length w [] = refl
laid-length [] (x ∷ s) = refl
laid-length (b ∷ w) (x ∷ s) = ap suc (laid-length w s)

-- what is lent from a place on comes back laid over
pub laid-part : (at : ℕ) (w s part : List ℕ) → at < length s → part ≡ laid w (take (length s - at) (drop at s)) → put_mid at (length s - at) s part ≡ laid_at at w s
unfolding laid_at
laid-part at w s part h e =
    let none : drop (length s - at) (drop at s) ≡ [] = drop_of_length-le (drop at s) {i = length s - at} (rw length-drop (omega arith)) in
    rw (lt-ltb at (length s) h, e, tail-is at s, none, append-nil (laid w (drop at s)))

laid_at_length : (at : ℕ) (w s : List ℕ) → length (laid_at at w s) ≡ length s
unfolding laid_at
laid_at_length at w s = by (ltb at (length s))
  where
    by : (t : Bool) → length (if t then take at s ++ laid w (drop at s) else s) ≡ length s
    by true = rw (length-append, laid-length w (drop at s)) (sym (length-append (take at s) (drop at s)) ∙ ap length (take-append-drop at s))
    by false = refl

-- the new bases of a line
module _ (line : List ℕ) where
  pub new-length : (n : ℕ) → length (new_in line n) ≡ n
  unfolding new_in
  new-length n = laid_at_length (number_at 17 line) (word_at 16 line) (filled 67 71 1 n) ∙ filled-length 67 71 1 n

  pub new_by : (out₁ out₂ w : List ℕ) (n at : ℕ) → out₁ ≡ filled 67 71 1 n → at ≡ number_at 17 line → w ≡ word_at 16 line → out₂ ≡ laid_at at w out₁ → out₂ ≡ new_in line n
  unfolding new_in
  new_by out₁ out₂ w n at e k l h = h ∙ rw (e, k, l)

abbrev markers : ℕ → List ℕ
markers m = replicate m 46

-- the letters of a line's reference
module _ (line : List ℕ) where
  cds-length : (n : ℕ) → length (coding_in line n) ≡ n
  unfolding coding_in
  cds-length n =
      let first = filled 65 67 1 n in
      let second = laid_at (place_before (number_at 1 line) 1) (bytes "ATG") first in
      laid_at_length (place_before (number_at 2 line) 3) (bytes "TAA") second
      ∙ laid_at_length (place_before (number_at 1 line) 1) (bytes "ATG") first
      ∙ filled-length 65 67 1 n

  pub cds-by : (out₁ out₂ out₃ : List ℕ) (n cs ce a b : ℕ) → cs ≡ number_at 1 line → a ≡ place_before cs 1 → ce ≡ number_at 2 line → b ≡ place_before ce 3
      → out₁ ≡ filled 65 67 1 n → out₂ ≡ laid_at a (bytes "ATG") out₁ → out₃ ≡ laid_at b (bytes "TAA") out₂ → out₃ ≡ coding_in line n
  unfolding coding_in
  cds-by out₁ out₂ out₃ n cs ce a b h k l m e₁ e₂ e₃ = e₃ ∙ rw (e₂, e₁, k, h, m, l)

  pub reference-length : (n : ℕ) → length (reference_in line n) ≡ n
  unfolding reference_in
  reference-length n = laid_at_length (number_at 15 line) (word_at 14 line) (coding_in line n) ∙ cds-length n

  pub reference-by : (out₁ out₂ w : List ℕ) (n at : ℕ) → out₁ ≡ coding_in line n → at ≡ number_at 15 line → w ≡ word_at 14 line → out₂ ≡ laid_at at w out₁ → out₂ ≡ reference_in line n
  unfolding reference_in
  reference-by out₁ out₂ w n at e k l h = h ∙ rw (e, k, l)

-- the first n of a row of markers are lent, and come back as so many bytes
pub lent_first : (m n : ℕ) (f : ℕ → List ℕ) (part : List ℕ) → n ≤ m → ((k : ℕ) → length (f k) ≡ k) → part ≡ f (length (take (n - 0) (drop 0 (markers m)))) → put_mid 0 (n - 0) (markers m) part ≡ over (f n) (markers m)
unfolding over
lent_first m n f part h k e =
    let whole : n - 0 ≡ n = omega arith in
    let long : length (take n (markers m)) ≡ n = length-take-le n (markers m) (omega (arith, length-replicate {A = ℕ} m 46)) in
    rw (e, whole, long, k n)

-- an exception by its parts
module _ (line : List ℕ) where
  pub by-rule-is : (count i last n codon residue : ℕ) → n ≡ (if eqb (i + 1) count then last else (i + 1)) → last ≡ number_at 13 line → codon ≡ min n 4294967295
      → residue ≡ get_or (field_at 12 line) 0 0 → ◌≡◌ {A = Exception} (record { codon = codon; residue = residue }) (by_rule line count i)
  unfolding by_rule
  by-rule-is count i last n codon residue e k m l = rw (m, e, k, l)

  pub listed-is : (first i n codon residue : ℕ) → n ≡ number_at (first + 2 * i) line → codon ≡ min n 4294967295 → residue ≡ get_or (field_at (first + 2 * i + 1) line) 0 0 → ◌≡◌ {A = Exception} (record { codon = codon; residue = residue }) (listed line first i)
  unfolding listed
  listed-is first i n codon residue e m k = rw (m, e, k)

drop_row : (m n : ℕ) (x : Exception) → drop n (replicate m x) ≡ replicate (m - n) x
drop_row m zero x = let whole : m - 0 ≡ m = omega arith in rw whole
drop_row zero (suc n) x = let none : 0 - suc n ≡ 0 = omega arith in rw none
drop_row (suc m) (suc n) x = let less : suc m - suc n ≡ m - n = omega arith in rw less (drop_row m n x)

with_all : (l m : List Exception) (count : ℕ) → l ≡ m → ◌≡◌ {A = Exceptions} (record { all = l; count = count }) (record { all = m; count = count })
with_all l m count e = rw e

-- exceptions stored, with those to come
module _ (line : List ℕ) (first count : ℕ) where
  abbrev from : ℕ → ℕ → List Exception
  from i n = exceptions_from line first count i n

  from_more : (i n : ℕ) → from i (suc n) ≡ exception_at line first count i ∷ from (suc i) n
  unfolding exceptions_from
  from_more i n = refl

  from-none : (i : ℕ) → from i 0 ≡ []
  unfolding exceptions_from
  from-none i = refl

  -- what the array holds once all are stored
  abbrev pub stored : ℕ → ℕ → List Exception → List Exception
  stored i n all = take i all ++ (from i (n - i) ++ drop n all)

  pub stored-start : (n : ℕ) → n ≡ min count 16 → stored 0 n (replicate 16 no_exception) ≡ (exceptions_of line first count).all
  unfolding exceptions_of
  stored-start n e =
      let whole : n - 0 ≡ n = omega arith in
      rw (whole, drop_row 16 n no_exception, e)

  pub stored-turn : (i n : ℕ) (x : Exception) (all t : List Exception) → i < n → i < length all → x ≡ exception_at line first count i → stored i n all ≡ t → stored (i + 1) n (set all i x) ≡ t
  stored-turn i n x all t h k e q =
      let left : n - i ≡ suc (n - suc i) = omega arith in
      rw (add-one, take-suc-set all i x k, drop-set-lt n all i x h, e)
      (append_assoc (take i all) (exception_at line first count i ∷ []) (from (suc i) (n - suc i) ++ drop n all)
      ∙ ap (λ (l : List Exception). take i all ++ (l ++ drop n all)) (sym (from_more i (n - suc i)) ∙ ap (from i) (sym left)) ∙ q)

  -- all are stored
  pub all-stored : (i n : ℕ) (all : List Exception) → i ≡ n → stored i n all ≡ (exceptions_of line first count).all → ◌≡◌ {A = Exceptions} (record { all = all; count = count }) (exceptions_of line first count)
  unfolding exceptions_of
  all-stored i n all e q =
      let none : n - i ≡ 0 = omega arith in
      let whole : all ≡ (exceptions_of line first count).all =
      sym (take-append-drop i all) ∙ ap (λ (k : ℕ). take i all ++ drop k all) e
      ∙ ap (λ (l : List Exception). take i all ++ (l ++ drop n all)) (sym (from-none i) ∙ ap (from i) (sym none)) ∙ q in
      with_all all (exceptions_of line first count).all count whole
