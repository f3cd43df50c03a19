-- Laws of an A of three parts: the beginning and the ending that it shares with R, its residues, and the part of it that stands in a buffer.
-- Assumes nothing.
use Rattle.std.specs.Prelude.{if◌then◌else◌}
use mathlib.Core.Path.{◌≡◌, refl, sym, ap, ◌∙◌}
use mathlib.Core.Bool.{Bool, true, false}
use mathlib.Core.List.{List, [], ◌∷◌, ◌++◌}
use Prim.Native.Nat.{ℕ, suc, ◌+◌, ◌-◌, ◌≤◌, ◌<◌, min}
use native.Mathlib.Omega.{arith}
use lib.Dec.{eqb}
use lib.ListN.{length, get_or, take, drop, length-append, length-drop, take-append-drop, get_or-append}
use lib.Seq.{length-take-le, take_at, take-length, drop_at, drop-drop, drop-append-le, get_or-drop, get_or-append-add}
use Rattle.rules.specs.Trims.{common_prefix, common_suffix}
use Rattle.rules.specs.Record.{ending}
use Rattle.rules.proofs.Over.{tail-is}
use Rattle.rules.proofs.Trims.{cp_le_l, cp_le_r, cp_take, cs_le_l, cs_le_r}
use Rattle.shares.specs.Shares.{Shares}
use Rattle.shares.proofs.Shared.{cp_self, cp_shared, ending-is, shares_last, shares_parts, prefix_fits}
use Rattle.joined.specs.Joined.{joined, Joins}

-- where two lists differ within the second, or the first has ended there, what stands behind the second doesn't count
cp_before : (a b q : List ℕ) → common_prefix a b < length b → common_prefix a (b ++ q) ≡ common_prefix a b
unfolding common_prefix
cp_before a [] q h = absurd (omega arith)
cp_before [] (y ∷ b) q h = refl
cp_before (x ∷ a) (y ∷ b) q h = at (eqb x y) h (cp_before a b q)
  where
    at : (t : Bool) → (if t then suc (common_prefix a b) else 0) < suc (length b) → (common_prefix a b < length b → common_prefix a (b ++ q) ≡ common_prefix a b)
        → (if t then suc (common_prefix a (b ++ q)) else 0) ≡ (if t then suc (common_prefix a b) else 0)
    at true h r = ap suc (r (omega arith))
    at false h r = refl

-- an ending within t, where one of the two has no more than t behind s
fewer : (r t s : ℕ) → r - t - s ≤ r - s
fewer r t s = omega arith

no_more : (r a s t n : ℕ) → t ≡ min r a - s → n ≤ r - t - s → n ≤ a - t - s → n ≡ 0
no_more r a s t n e h k = omega arith

-- a part of a list is the end of its beginning
part_of_lem : (a n : ℕ) (l : List ℕ) → a ≤ n → n ≤ length l → take (n - a) (drop a l) ≡ drop a (take n l)
part_of_lem a n l h k =
    let long : length (take n l) ≡ n = length-take-le n l k in
    let split : drop a l ≡ drop a (take n l) ++ drop n l = ap (drop a) (sym (take-append-drop n l)) ∙ drop-append-le a (take n l) (drop n l) (omega arith) in
    rw split (take_at (drop a (take n l)) (drop n l) (n - a) (length-drop a (take n l) ∙ omega arith))

least_known : (b r a s t : ℕ) → t ≡ min r a - s → b ≤ t → b ≡ min b (min r a - s)
least_known b r a s t e h = omega arith

at_end : (a h m b s : ℕ) → a ≡ h + m + b → a - b - s ≡ h + m - s
at_end a h m b s e = omega arith

up_to : (s h m : ℕ) → h ≤ s → s - h ≤ m → s ≤ h + m
up_to s h m k l = omega arith

back_at : (r b s : ℕ) → b ≤ r → r - (r - b) - s ≡ b - s
back_at r b s h = omega arith

module _ (head back : ℕ) (R M : List ℕ) (x : Joins head back R M) where
  abbrev A : List ℕ
  A = joined head back R M

  head-long : length (take head R) ≡ head
  head-long = length-take-le head R (omega (arith, x.follows, x.within))

  pub joined-long : length A ≡ head + length M + (length R - back)
  unfolding joined
  joined-long = simp (length-append, length-drop) (omega (arith, head-long))

  begins : take head R ≡ take head A
  unfolding joined
  begins = sym (take_at (take head R) (M ++ drop back R) head head-long)

  goes_on : drop head A ≡ M ++ drop back R
  unfolding joined
  goes_on = drop_at (take head R) (M ++ drop back R) head head-long

  from-head : common_prefix R A ≡ head + common_prefix (drop head R) (M ++ drop back R)
  from-head = rw goes_on at (cp_shared head R A (omega (arith, x.follows, x.within)) begins)

  pub begins-behind : head ≤ common_prefix R A
  begins-behind = omega (arith, from-head)

  -- k of the residues between are those of R
  module _ (k : ℕ) (is : k ≡ common_prefix (take (length R - head) (drop head R)) M) where
    told : k ≡ common_prefix (drop head R) M
    told = rw (tail-is head R) at is

    pub begin-in : head + k ≤ length R
    begin-in = omega (arith, told, cp_le_l (drop head R) M, length-drop head R, x.follows, x.within)

    pub begin-differs : k < length M → head + k ≡ common_prefix R A
    begin-differs h = omega (arith, from-head, cp_before (drop head R) M (drop back R) (omega (arith, told)), told)

    -- all of them are: R is compared with itself
    module _ (whole : length M ≤ k) where
      all : k ≡ length M
      all = omega (arith, told, cp_le_r (drop head R) M)

      own : take k (drop head R) ≡ take k (M ++ drop back R)
      own = cp_take k (drop head R) M (omega (arith, told)) ∙ ap (λ (n : ℕ). take n M) all ∙ take-length M ∙ sym (take_at M (drop back R) k (sym all))

      further : common_prefix R A ≡ head + k + common_prefix (drop (head + k) R) (drop back R)
      further =
          let step = cp_shared k (drop head R) (M ++ drop back R) (omega (arith, begin-in, length-drop head R)) own in
          let here : drop k (drop head R) ≡ drop (head + k) R = drop-drop k head R in
          let there : drop k (M ++ drop back R) ≡ drop back R = drop_at M (drop back R) k (sym all) in
          omega (arith, from-head, rw (here, there) at step)

      pub begin-whole : head + k ≡ back → length R ≡ common_prefix R A
      begin-whole e =
          let self : common_prefix (drop (head + k) R) (drop back R) ≡ length (drop back R) = ap (λ (n : ℕ). common_prefix (drop n R) (drop back R)) e ∙ cp_self (drop back R) in
          omega (arith, further, self, length-drop back R, x.within)

      pub begin-on : (j : ℕ) → j ≡ common_prefix (take (length R - (head + k)) (drop (head + k) R)) (take (length R - back) (drop back R)) → head + k + j ≡ common_prefix R A
      begin-on j e = omega (arith, further, rw (tail-is (head + k) R, tail-is back R) at e)

  shares : Shares head (length R - back) R A
  unfolding joined
  shares =
      let at : length R - (length R - back) ≡ back = omega (arith, x.within) in
      rw at at (shares_parts head (length R - back) R M (omega (arith, x.follows, x.within)))

  -- the part of A from s on, up to the residues of R behind
  middle : (s : ℕ) → head ≤ s → s ≤ head + length M → take (head + length M - s) (drop s A) ≡ drop (s - head) M
  middle s h k =
      let at : s ≡ head + (s - head) = omega arith in
      let there : drop s A ≡ drop (s - head) M ++ drop back R =
      ap (λ (n : ℕ). drop n A) at ∙ sym (drop-drop (s - head) head A) ∙ ap (drop (s - head)) goes_on ∙ drop-append-le (s - head) M (drop back R) (omega arith) in
      rw there (take_at (drop (s - head) M) (drop back R) (head + length M - s) (length-drop (s - head) M ∙ omega arith))

  -- behind s shared residues
  module _ (s : ℕ) (is : s ≡ common_prefix R A) where
    pub begin-fits : (head ≤ s) × (s ≤ length R) × (s ≤ head + length M + (length R - back))
    begin-fits = (omega (arith, begins-behind), omega (arith, cp_le_l R A), omega (arith, cp_le_r R A, joined-long))

    -- one of the two ends within what is known
    pub ending-most : (t : ℕ) → t ≡ min (length R) (head + length M + (length R - back)) - s → t < length R - back → t ≡ ending false s R A
    ending-most t e h =
        let fits = prefix_fits s R A is in
        let far : t ≡ min (length R) (length A) - s = rw joined-long e in
        let n : ℕ = common_suffix (take (length R - t - s) (drop s R)) (take (length A - t - s) (drop s A)) in
        let few : t ≡ min (length R - back) (min (length R) (length A) - s) = omega arith in
        let whole = ending-is (length R - back) s t R A (shares_last head (length R - back) R A shares) fits.0 fits.1 few n refl in
        let P = take (length R - t - s) (drop s R) in
        let Q = take (length A - t - s) (drop s A) in
        let in-r : length P ≡ length R - t - s = length-take-le (length R - t - s) (drop s R) (rw length-drop (fewer (length R) t s)) in
        let in-a : length Q ≡ length A - t - s = length-take-le (length A - t - s) (drop s A) (rw length-drop (fewer (length A) t s)) in
        let none : n ≡ 0 = no_more (length R) (length A) s t n far (rw in-r at (cs_le_l P Q)) (rw in-a at (cs_le_r P Q)) in
        sym (ap (λ (m : ℕ). t + m) none ∙ omega arith) ∙ whole

    pub ending-some : (t : ℕ) → t ≡ min (length R) (head + length M + (length R - back)) - s → length R - back ≤ t → (s ≤ back) × (s - head ≤ length M)
    ending-some t e h = (omega (arith, begin-fits.1, x.within), omega (arith, begin-fits.2))

    pub ending-on : (t n : ℕ) → t ≡ min (length R) (head + length M + (length R - back)) - s → length R - back ≤ t
        → n ≡ common_suffix (take (back - s) (drop s R)) (take (length M - (s - head)) (drop (s - head) M)) → length R - back + n ≡ ending false s R A
    ending-on t n e h shared =
        let fits = prefix_fits s R A is in
        let inside = ending-some t e h in
        let far : t ≡ min (length R) (length A) - s = rw joined-long e in
        let few = least_known (length R - back) (length R) (length A) s t far h in
        let at-r = back_at (length R) back s x.within in
        let at_a = at_end (length A) head (length M) (length R - back) s joined-long in
        let part-a : take (length A - (length R - back) - s) (drop s A) ≡ take (length M - (s - head)) (drop (s - head) M) =
        ap (λ (m : ℕ). take m (drop s A)) at_a ∙ middle s begin-fits.0 (up_to s head (length M) begin-fits.0 inside.1) ∙ sym (tail-is (s - head) M) in
        ending-is (length R - back) s (length R - back) R A (shares_last head (length R - back) R A shares) fits.0 fits.1 few n (rw (at-r, part-a) shared)

  -- a residue of A
  here : (i : ℕ) → head ≤ i → get_or A i 0 ≡ get_or (M ++ drop back R) (i - head) 0
  here i h =
      let at : head + (i - head) ≡ i = omega arith in
      sym (ap (λ (n : ℕ). get_or A n 0) at) ∙ sym (get_or-drop head A (i - head) 0) ∙ ap (λ (l : List ℕ). get_or l (i - head) 0) goes_on

  pub residue-read : (i : ℕ) → head ≤ i → i - head < length M → get_or M (i - head) 0 ≡ get_or A i 0
  residue-read i h k = sym (here i h ∙ get_or-append M (drop back R) 0 (i - head) k)

  pub residue-behind : (i y : ℕ) → head ≤ i → length M ≤ i - head → y ≡ get_or R (back + (i - head - length M)) 0 → y ≡ get_or A i 0
  residue-behind i y h k e =
      let at : length M + (i - head - length M) ≡ i - head = omega arith in
      e ∙ sym (get_or-drop back R (i - head - length M) 0) ∙ sym (get_or-append-add M (drop back R) (i - head - length M) 0)
      ∙ ap (λ (n : ℕ). get_or (M ++ drop back R) n 0) at ∙ sym (here i h)

  -- what stands in a buffer is A behind `head`
  pub window : (out : List ℕ) (at end : ℕ) → at ≤ end → end ≤ length out → end ≤ length M + (length R - back) → take end out ≡ take end (M ++ drop back R)
      → take (end - at) (drop at out) ≡ take (end - at) (drop (head + at) A)
  window out at end h k l e =
      part_of_lem at end out h k ∙ ap (drop at) e ∙ sym (part_of_lem at end (M ++ drop back R) h (simp (length-append, length-drop) l))
      ∙ ap (λ (l : List ℕ). take (end - at) (drop at l)) (sym goes_on) ∙ ap (take (end - at)) (drop-drop at head A)
