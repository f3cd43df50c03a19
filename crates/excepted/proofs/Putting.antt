-- Laws of exceptions: whether they can be taken, and residues with them, one exception at a time. Assumes nothing.
use Rattle.std.specs.Prelude.{if◌then◌else◌}
use mathlib.Core.Path.{◌≡◌, refl, sym, ap, ◌∙◌}
use mathlib.Core.Bool.{Bool, true, false, ◌&&◌, and-eq-true_iff}
use mathlib.Core.List.{List, [], ◌∷◌, ◌++◌, append_assoc, map}
use Prim.Native.Nat.{ℕ, zero, suc, ◌+◌, ◌-◌, ◌/◌, ◌%◌, ◌≤◌, ◌<◌}
use native.Mathlib.Numerals.{add-one}
use native.Mathlib.Omega.{arith}
use lib.Dec.{leb, ltb}
use lib.ListN.{length, get_or, take, drop, set, length-map, take-append-drop}
use lib.Seq.{take-suc, take_at, drop_at, set-append_left, length-take-le}
use borrow.Author.Tests.{eq-eqb, ne_eqb, le-leb, lt-leb, leb-true, leb-false, ltb-true, ltb-false}
use Rattle.rules.specs.declared.Exception.{Exception}
use Rattle.rules.specs.declared.Exceptions.{Exceptions}
use Rattle.rules.specs.Bytes.{all, over}
use Rattle.rules.specs.Letters.{folded}
use Rattle.rules.specs.Codons.{codon}
use Rattle.rules.specs.Translation.{exception_list, excepted, residues_from, translated, residue_count, is_residue, are_exceptions, whole_codons, folded_translated}
use Rattle.rules.proofs.Lists.{all_append}
use Rattle.rules.proofs.Translation.{first_exceptions, length_exceptions, length-translated}
use Rattle.rules.proofs.Reading.{rest_of, excepted-append, length_whole, whole-and-rest}
use Rattle.excepted.specs.Exceptions.{excepted_from, nearer, next_from, Clear}

pub never : false ≡ true → ⊥
never e =
    let z : ◌≡◌ {A = ℕ} 0 1 = cc in
    omega arith

abbrev pub can_be : Exception → Bool
can_be x = leb 1 x.codon && is_residue x.residue

-- a test of the first of a list, one more, and one that fails
all_more : (p : Exception → Bool) (s : List Exception) (k : ℕ) (d : Exception) → k < length s → all p (take k s) ≡ true → p (get_or s k d) ≡ true → all p (take (k + 1) s) ≡ true
unfolding all
all_more p s k d h e e' = rw (add-one, take-suc s k d h, all_append p (take k s) (get_or s k d ∷ []), e, e')

all_fails : (p : Exception → Bool) (s : List Exception) (n k : ℕ) (d : Exception) → k < n → k < length s → p (get_or s k d) ≡ false → all p (take n s) ≡ false
unfolding all
all_fails p [] n k d l h e = absurd (omega arith)
all_fails p (x ∷ s) zero k d l h e = absurd (omega arith)
all_fails p (x ∷ s) (suc n) zero d l h e = rw e
all_fails p (x ∷ s) (suc n) (suc k) d l h e = rw (all_fails p s n k d (omega arith) (omega arith) e) (no_more (p x))
  where
    no_more : (b : Bool) → b && false ≡ false
    no_more true = refl
    no_more false = refl

module _ (e : Exceptions) (long : length e.all ≡ 16) where
  pub too_many : 16 < e.count → are_exceptions (exception_list e) ≡ false
  unfolding are_exceptions
  too_many h = rw (length_exceptions e, lt-leb e.count 16 h)

  few : e.count ≤ 16 → are_exceptions (exception_list e) ≡ all can_be (take e.count e.all)
  unfolding are_exceptions
  few h = rw (length_exceptions e, le-leb e.count 16 h, first_exceptions e long h)

  module _ (h : e.count ≤ 16) (k : ℕ) (d : Exception) where
    pub taken_more : k < e.count → all can_be (take k e.all) ≡ true → can_be (get_or e.all k d) ≡ true → all can_be (take (k + 1) e.all) ≡ true
    taken_more l = all_more can_be e.all k d (omega arith)

    pub not_taken : k < e.count → can_be (get_or e.all k d) ≡ false → are_exceptions (exception_list e) ≡ false
    not_taken l e' = few h ∙ all_fails can_be e.all e.count k d l (omega arith) e'

  pub all-taken : e.count ≤ 16 → (k : ℕ) → k ≡ e.count → all can_be (take k e.all) ≡ true → are_exceptions (exception_list e) ≡ true
  all-taken h k is t = few h ∙ rw (← is) t

-- as many residues
length-excepted : (es : List Exception) (n : ℕ) (rs : List ℕ) → length (excepted_from es n rs) ≡ length rs
unfolding excepted_from
length-excepted es n [] = refl
length-excepted es n (r ∷ rs) = ap suc (length-excepted es (suc n) rs)

-- no exceptions, and some behind others
pub excepted_none : (n : ℕ) (rs : List ℕ) → excepted_from [] n rs ≡ rs
unfolding excepted excepted_from
excepted_none n [] = refl
excepted_none n (r ∷ rs) = ap (λ (l : List ℕ). r ∷ l) (excepted_none (suc n) rs)

excepted_behind : (xs ys : List Exception) (n : ℕ) (rs : List ℕ) → excepted_from ys n (excepted_from xs n rs) ≡ excepted_from (xs ++ ys) n rs
unfolding excepted_from
excepted_behind xs ys n [] = refl
excepted_behind xs ys n (r ∷ rs) = rw (excepted-append xs ys n r, excepted_behind xs ys (suc n) rs)

-- a codon's number is from 1 and at most n
pub in_codons : (c n : ℕ) → leb 1 c && leb c n ≡ true → (1 ≤ c) × (c ≤ n)
in_codons c n e =
    let both = (and-eq-true_iff (leb 1 c) (leb c n)).0 e in
    (leb-true 1 c both.0, leb-true c n both.1)

-- one exception: the residue of its codon is replaced, and no other
module _ (x : Exception) where
  other : (n r : ℕ) → (x.codon ≡ n → ⊥) → excepted (x ∷ []) n r ≡ r
  unfolding excepted
  other n r h = rw (ne_eqb x.codon n h)

  own : (n r : ℕ) → x.codon ≡ n → excepted (x ∷ []) n r ≡ x.residue
  unfolding excepted
  own n r h = rw (eq-eqb x.codon n h)

  excepted-past : (n : ℕ) (rs : List ℕ) → x.codon < n → excepted_from (x ∷ []) n rs ≡ rs
  unfolding excepted_from
  excepted-past n [] h = refl
  excepted-past n (r ∷ rs) h = rw (other n r (λ e. omega arith), excepted-past (suc n) rs (omega arith))

  excepted-before : (n : ℕ) (rs : List ℕ) → n + length rs ≤ x.codon → excepted_from (x ∷ []) n rs ≡ rs
  unfolding excepted_from
  excepted-before n [] h = refl
  excepted-before n (r ∷ rs) h = rw (other n r (λ e. omega arith), excepted-before (suc n) rs (omega arith))

  excepted-at : (n k : ℕ) (rs : List ℕ) → x.codon ≡ n + k → k < length rs → set rs k x.residue ≡ excepted_from (x ∷ []) n rs
  unfolding excepted_from
  excepted-at n k [] e h = absurd (omega arith)
  excepted-at n zero (r ∷ rs) e h = rw (own n r (omega arith), excepted-past (suc n) rs (omega arith))
  excepted-at n (suc k) (r ∷ rs) e h = rw (other n r (λ z. omega arith), excepted-at (suc n) k rs (omega arith) (omega arith))

  module _ (whole : ℕ) (out : List ℕ) (fits : whole ≤ length out) where
    long : length (take whole out) ≡ whole
    long = length-take-le whole out fits

    put-at : 1 ≤ x.codon → x.codon ≤ whole → set out (x.codon - 1) x.residue ≡ excepted_from (x ∷ []) 1 (take whole out) ++ drop whole out
    put-at h k =
        ap (λ (l : List ℕ). set l (x.codon - 1) x.residue) (sym (take-append-drop whole out))
        ∙ set-append_left (take whole out) (drop whole out) (x.codon - 1) x.residue (omega (arith, long))
        ∙ ap (λ (l : List ℕ). l ++ drop whole out) (excepted-at 1 (x.codon - 1) (take whole out) (omega arith) (omega (arith, long)))

    not-zero : x.codon < 1 → out ≡ excepted_from (x ∷ []) 1 (take whole out) ++ drop whole out
    not-zero h = sym (take-append-drop whole out) ∙ ap (λ (l : List ℕ). l ++ drop whole out) (sym (excepted-past 1 (take whole out) h))

    not-past : whole < x.codon → out ≡ excepted_from (x ∷ []) 1 (take whole out) ++ drop whole out
    not-past h = sym (take-append-drop whole out) ∙ ap (λ (l : List ℕ). l ++ drop whole out) (sym (excepted-before 1 (take whole out) (omega (arith, long))))

    -- the buffer where the exception is put, and where its number is that of no whole codon
    pub put_in : leb 1 x.codon && leb x.codon whole ≡ true → set out (x.codon - 1) x.residue ≡ excepted_from (x ∷ []) 1 (take whole out) ++ drop whole out
    put_in e = put-at (in_codons x.codon whole e).0 (in_codons x.codon whole e).1

    pub put-out : leb 1 x.codon && leb x.codon whole ≡ false → out ≡ excepted_from (x ∷ []) 1 (take whole out) ++ drop whole out
    put-out e = at (leb 1 x.codon) (leb x.codon whole) refl refl e
      where
        at : (a b : Bool) → leb 1 x.codon ≡ a → leb x.codon whole ≡ b → a && b ≡ false → out ≡ excepted_from (x ∷ []) 1 (take whole out) ++ drop whole out
        at false b is is' z = not-zero (leb-false 1 x.codon is)
        at true false is is' z = not-past (leb-false x.codon whole is')
        at true true is is' z = cc

-- one exception more is put
pub put-more : (s : List Exception) (k : ℕ) (d : Exception) (whole : ℕ) (out old : List ℕ) → whole ≤ length old → k < length s → out ≡ excepted_from (take k s) 1 (take whole old) ++ drop whole old
    → excepted_from (get_or s k d ∷ []) 1 (take whole out) ++ drop whole out ≡ excepted_from (take (k + 1) s) 1 (take whole old) ++ drop whole old
put-more s k d whole out old fits h e =
    let p : List ℕ = excepted_from (take k s) 1 (take whole old) in
    let long : length p ≡ whole = length-excepted (take k s) 1 (take whole old) ∙ length-take-le whole old fits in
    rw (e, take_at p (drop whole old) whole long, drop_at p (drop whole old) whole long, add-one, take-suc s k d h, ← excepted_behind (take k s) (get_or s k d ∷ []) 1 (take whole old))

-- the residues of whole codons with exceptions
residues-excepted : (t : ℕ) (es : List Exception) (n : ℕ) (s : List ℕ) → length s % 3 ≡ 0 → excepted_from es n (residues_from t [] n s) ≡ residues_from t es n s
unfolding excepted residues_from excepted_from
residues-excepted t es n [] h = refl
residues-excepted t es n (a ∷ []) h = absurd (omega arith)
residues-excepted t es n (a ∷ b ∷ []) h = absurd (omega arith)
residues-excepted t es n (a ∷ b ∷ c ∷ s) h = ap (λ (l : List ℕ). excepted es n (codon t a b c) ∷ l) (residues-excepted t es (suc n) s (omega arith))

with_exceptions_lem : (t : ℕ) (es : List Exception) (s : List ℕ) → length s % 3 ≡ 0 → excepted_from es 1 (translated t [] s) ≡ translated t es s
unfolding translated
with_exceptions_lem t es s h = residues-excepted t es 1 s h

-- the exceptions put over a translation without them
pub excepted-over : (t : ℕ) (es : List Exception) (s out : List ℕ) → excepted_from es 1 (take (length s / 3) (over (folded_translated t [] s) out)) ++ drop (length s / 3) (over (folded_translated t [] s) out) ≡ over (folded_translated t es s) out
unfolding folded_translated over residue_count
excepted-over t es s out =
    let l : List ℕ = map folded s in
    let n : ℕ = length s / 3 in
    let long : length l ≡ length s = length-map s folded in
    let w : List ℕ = translated t [] (whole_codons l) in
    let w' : List ℕ = translated t es (whole_codons l) in
    let r : List ℕ = rest_of (length l % 3) in
    let m : ℕ = length (translated t [] l) in
    let same : length (translated t es l) ≡ m = length-translated t es l ∙ sym (length-translated t [] l) in
    let whole : length w ≡ n = length-translated t [] (whole_codons l) ∙ omega (arith, length_whole l) in
    let spelt : translated t [] l ++ drop m out ≡ w ++ (r ++ drop m out) = ap (λ (q : List ℕ). q ++ drop m out) (whole-and-rest t [] l) ∙ append_assoc w r (drop m out) in
    let put : excepted_from es 1 w ≡ w' = with_exceptions_lem t es (whole_codons l) (omega (arith, length_whole l)) in
    rw (same, spelt, take_at w (r ++ drop m out) n whole, drop_at w (r ++ drop m out) n whole, put, whole-and-rest t es l, append_assoc)

-- all are put
pub all_put : (e : Exceptions) (whole k : ℕ) (out old : List ℕ) → length e.all ≡ 16 → e.count ≤ 16 → k ≡ e.count → out ≡ excepted_from (take k e.all) 1 (take whole old) ++ drop whole old
    → out ≡ excepted_from (exception_list e) 1 (take whole old) ++ drop whole old
all_put e whole k out old long h is put = put ∙ rw (is, first_exceptions e long h)

-- one exception more is looked at
pub excepted_more : (s : List Exception) (k n r y y' : ℕ) (d : Exception) → k < length s → y ≡ excepted (take k s) n r → y' ≡ excepted (get_or s k d ∷ []) n y → y' ≡ excepted (take (k + 1) s) n r
excepted_more s k n r y y' d h e e' =
    e' ∙ rw (e, add-one, take-suc s k d h) (sym (excepted-append (take k s) (get_or s k d ∷ []) n r))

next-append : (xs ys : List Exception) (n past : ℕ) → next_from (xs ++ ys) n past ≡ next_from ys n (next_from xs n past)
unfolding next_from
next-append [] ys n past = refl
next-append (x ∷ xs) ys n past = next-append xs ys n (nearer x n past)

pub next_more : (s : List Exception) (k n past y y' : ℕ) (d : Exception) → k < length s → y ≡ next_from (take k s) n past → y' ≡ nearer (get_or s k d) n y → y' ≡ next_from (take (k + 1) s) n past
unfolding next_from
next_more s k n past y y' d h e e' =
    e' ∙ rw (e, add-one, take-suc s k d h) (sym (next-append (take k s) (get_or s k d ∷ []) n past))

-- the nearest is from n on, and at most what it was
nearer_from : (x : Exception) (n next : ℕ) → n ≤ next → n ≤ nearer x n next
unfolding nearer
nearer_from x n next h = at (leb n x.codon) (ltb x.codon next) refl
  where
    at : (a b : Bool) → leb n x.codon ≡ a → n ≤ (if a && b then x.codon else next)
    at true true e = leb-true n x.codon e
    at true false e = h
    at false b e = h

nearer_le : (x : Exception) (n next : ℕ) → nearer x n next ≤ next
unfolding nearer
nearer_le x n next = at (leb n x.codon) (ltb x.codon next) refl
  where
    at : (a b : Bool) → ltb x.codon next ≡ b → (if a && b then x.codon else next) ≤ next
    at true true e = omega (arith, ltb-true x.codon next e)
    at true false e = omega arith
    at false b e = omega arith

-- no exception stands between n and the nearest
nearer_not : (x : Exception) (n next m : ℕ) → n ≤ m → m < nearer x n next → x.codon ≡ m → ⊥
unfolding nearer
nearer_not x n next m h l e = at (leb n x.codon) (ltb x.codon next) refl refl l
  where
    at : (a b : Bool) → leb n x.codon ≡ a → ltb x.codon next ≡ b → m < (if a && b then x.codon else next) → ⊥
    at true true p q k = omega arith
    at true false p q k = omega (arith, ltb-false x.codon next q)
    at false b p q k = omega (arith, leb-false n x.codon p)

next_from_lem : (es : List Exception) (n past : ℕ) → n ≤ past → n ≤ next_from es n past
unfolding next_from
next_from_lem [] n past h = h
next_from_lem (x ∷ es) n past h = next_from_lem es n (nearer x n past) (nearer_from x n past h)

next_le : (es : List Exception) (n past : ℕ) → next_from es n past ≤ past
unfolding next_from
next_le [] n past = omega arith
next_le (x ∷ es) n past = omega (arith, next_le es n (nearer x n past), nearer_le x n past)

next_not : (es : List Exception) (n past m r : ℕ) → n ≤ m → m < next_from es n past → excepted es m r ≡ r
unfolding excepted next_from
next_not [] n past m r h l = refl
next_not (x ∷ es) n past m r h l =
    let none : x.codon ≡ m → ⊥ = nearer_not x n past m h (omega (arith, next_le es n (nearer x n past))) in
    rw (ne_eqb x.codon m none) (next_not es n (nearer x n past) m r h l)

pub next_clear : (es : List Exception) (i past next : ℕ) → i < past → next ≡ next_from es (i + 1) past → Clear es i next
next_clear es i past next h e =
    record { ahead = rw e (omega (arith, next_from_lem es (i + 1) past (omega arith))); none = λ m r l k. next_not es (i + 1) past m r (omega arith) (rw e at k) }

-- a codon that isn't the next with an exception
pub still_clear : (es : List Exception) (i next r : ℕ) → Clear es i next → (i + 1 ≡ next → ⊥) → (r ≡ excepted es (i + 1) r) × Clear es (i + 1) next
still_clear es i next r c n =
    let less : i + 1 < next = omega (arith, c.ahead) in
    (sym (c.none (i + 1) r (omega arith) less), record { ahead = less; none = λ m y l k. c.none m y (omega arith) k })
