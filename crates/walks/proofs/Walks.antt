-- Laws of a walk to the first stop, a turn at a time. Assumes nothing.
use mathlib.Core.Path.{◌≡◌, refl, sym, ap, ◌∙◌}
use mathlib.Core.Bool.{Bool, true, ◌&&◌, and-eq-true_iff}
use mathlib.Core.List.{List, [], ◌∷◌, ◌++◌, map, append_assoc, append-nil}
use Prim.Native.Nat.{ℕ, zero, suc, ◌+◌, ◌-◌, ◌*◌, ◌/◌, ◌%◌, ◌≤◌, ◌<◌, min}
use native.Mathlib.Omega.{arith}
use lib.Dec.{eqb}
use lib.ListN.{length, take, drop, set, length-set, length-drop, drop_of_length-le}
use lib.Seq.{get_or-take, length-take-le, take-append-add, drop-append-add}
use borrow.Author.Tests.{eqb-true}
use borrow.Rule.Slice.PartMut.{put_mid}
use Rattle.rules.specs.declared.Exception.{Exception}
use Rattle.rules.specs.declared.Exceptions.{Exceptions}
use Rattle.rules.specs.Bytes.{byte, over}
use Rattle.rules.specs.Letters.{folded}
use Rattle.rules.specs.Translation.{exception_list, excepted, folded_translated, before_stop, through_stop, whole_codons}
use Rattle.rules.proofs.Over.{over_from, from_start, from_end, from_turn, tail-is}
use Rattle.rules.proofs.Reading.{rest_of, before_here, before_later, through_here, through_later, through_rest, length_whole}
use Rattle.places.specs.Places.{codon_at}
use Rattle.walks.specs.Walks.{residue_at, ReadsCodons, WalkedTo, codons_walked}
use Rattle.places.proofs.Residues.{plain_at_lem, left_from, left-all, left-more, left-rest, left_part}

-- the residue of a codon that was read, exceptions applied
pub read_at : {post : ℕ → ℕ → Type 0} (t : ℕ) (es : List Exception) (s : List ℕ) (whole i c v : ℕ) → ReadsCodons post t s whole → i < whole → post i c → v ≡ excepted es (i + 1) c → v ≡ residue_at t es s i
unfolding residue_at
read_at t es s whole i c v reads h called is = is ∙ ap (excepted es (i + 1)) (reads.each i c h called)

-- before codon i: writing what is left gives the protein, and its length is that of both
pub record Walk (t : ℕ) (es : List Exception) (s A old out : List ℕ) (i : ℕ) : Type 0 where
  pub left : over_from i (through_stop (left_from t es s i)) out ≡ over A old
  pub long : i + length (through_stop (left_from t es s i)) ≡ length A
  pub same : length out ≡ length old

pub walk_start : (t : ℕ) (es : List Exception) (s old : List ℕ) → Walk t es s (through_stop (folded_translated t es s)) old old 0
walk_start t es s old =
    let e : through_stop (left_from t es s 0) ≡ through_stop (folded_translated t es s) = ap through_stop (left-all t es s) in
    record {
      left = ap (λ (l : List ℕ). over_from 0 l old) e ∙ from_start (through_stop (folded_translated t es s)) old;
      long = omega (arith, ap (λ (l : List ℕ). length l) e);
      same = refl;
    }

module _ (t : ℕ) (es : List Exception) (s A old out : List ℕ) (i v : ℕ) (w : Walk t es s A old out i) (h : i < length s / 3) (k : i < length out) (is : v ≡ residue_at t es s i) where
  next : left_from t es s i ≡ v ∷ left_from t es s (i + 1)
  unfolding residue_at
  next = left-more t es s i h ∙ ap (λ (r : ℕ). r ∷ left_from t es s (i + 1)) (sym is)

  -- a residue that is no `*`
  pub walk_more : (v ≡ byte "*" → ⊥) → Walk t es s A old (set out i v) (i + 1)
  walk_more n =
      let e : through_stop (left_from t es s i) ≡ v ∷ through_stop (left_from t es s (i + 1)) = ap through_stop next ∙ through_later v (left_from t es s (i + 1)) n in
      record {
        left = from_turn i v (through_stop (left_from t es s i)) (through_stop (left_from t es s (i + 1))) out (over A old) k e w.left;
        long = omega (arith, ap (λ (l : List ℕ). length l) e, w.long);
        same = length-set out i v ∙ w.same;
      }

  -- the first `*`
  pub walk-stop : v ≡ byte "*" → WalkedTo A (length s) old (set out i v) i
  walk-stop z =
      let e : through_stop (left_from t es s i) ≡ v ∷ [] = ap through_stop next ∙ through_here v (left_from t es s (i + 1)) z in
      record {
        within = omega arith;
        stopped = λ _. (omega (arith, ap (λ (l : List ℕ). length l) e, w.long), sym (from_end (i + 1) (set out i v)) ∙ from_turn i v (through_stop (left_from t es s i)) [] out (over A old) k e w.left);
        ended = λ past. absurd (omega arith);
      }

length_rest : (n : ℕ) → n / 3 + length (rest_of (n % 3)) ≡ (n + 2) / 3
length_rest n = at (n % 3) refl
  where
    at : (r : ℕ) → n % 3 ≡ r → n / 3 + length (rest_of r) ≡ (n + 2) / 3
    at zero e = omega arith
    at (suc r) e = omega arith

-- no whole codon is left
pub walk_end : (t : ℕ) (es : List Exception) (s A old out : List ℕ) (i : ℕ) → Walk t es s A old out i → i ≡ length s / 3 → WalkedTo A (length s) old out (length s / 3)
walk_end t es s A old out i w h =
    let e : through_stop (left_from t es s i) ≡ rest_of (length s % 3) = ap through_stop (left-rest t es s i h) ∙ through_rest (length s % 3) in
    record {
      within = omega arith;
      stopped = λ less. absurd (omega arith);
      ended = λ _. (omega (arith, w.long, ap (λ (l : List ℕ). length l) e, length_rest (length s)), rw (← e, ← h) w.left);
    }

behind : (f p r : List ℕ) (k : ℕ) → over_from (length f + k) r (f ++ p) ≡ f ++ over_from k r p
unfolding over_from
behind f p r k = rw (take-append-add f p k, drop-append-add f p k, append_assoc)

-- the walk goes on in the part from codon i on
module _ (t : ℕ) (s A old out : List ℕ) (i : ℕ) (w : Walk t [] s A old out i) (h : i ≤ length s / 3) (fits : i ≤ length out) where
  put_on : take i out ++ over (through_stop (folded_translated t [] (drop (i * 3) s))) (drop i out) ≡ over A old
  unfolding over_from
  put_on = ap (λ (l : List ℕ). take i out ++ over (through_stop l) (drop i out)) (left_part t s i) ∙ w.left

  on : (part : List ℕ) (j : ℕ) → WalkedTo (through_stop (folded_translated t [] (drop (i * 3) s))) (length (drop (i * 3) s)) (drop i out) part j
      → WalkedTo A (length s) old (take i out ++ part) (i + j)
  on part j x =
      let u : List ℕ = drop (i * 3) s in
      let long : length (take i out) ≡ i = length-take-le i out fits in
      let size : length u ≡ length s - i * 3 = length-drop (i * 3) s in
      let many : i + length (through_stop (folded_translated t [] u)) ≡ length A = ap (λ (l : List ℕ). i + length (through_stop l)) (left_part t s i) ∙ w.long in
      let at : length s / 3 ≡ length (take i out) + length u / 3 = omega arith in
      let rest : length s % 3 ≡ length u % 3 = omega arith in
      record {
        within = omega (arith, x.within);
        stopped = λ less.
            let done = x.stopped (omega arith) in
            (omega (arith, done.0), rw done.1 put_on);
        ended = λ past.
            let done = x.ended (omega arith) in
            (omega (arith, done.0), rw (at, rest, behind (take i out) part (rest_of (length u % 3)) (length u / 3), done.1) put_on);
      }

  pub walk-on : (part : List ℕ) (j : ℕ)
      → WalkedTo (through_stop (folded_translated t [] (take (length s - i * 3) (drop (i * 3) s)))) (length (take (length s - i * 3) (drop (i * 3) s))) (take (length out - i) (drop i out)) part j
      → WalkedTo A (length s) old (put_mid i (length out - i) out part) (i + j)
  walk-on part j x =
      let none : drop (length out - i) (drop i out) ≡ [] = drop_of_length-le (drop i out) {i = length out - i} (rw length-drop (omega arith)) in
      simp (none, append-nil) (on part j (rw (tail-is (i * 3) s, tail-is i out) at x))

-- the length of the part from place n on
pub length-on : (n : ℕ) (s : List ℕ) → length (take (length s - n) (drop n s)) ≡ length s - n
length-on n s = ap (λ (l : List ℕ). length l) (tail-is n s) ∙ length-drop n s

-- the whole codons through the first stop, where there is one and where there is none
module _ (t : ℕ) (es : List Exception) (s : List ℕ) (stop looked : ℕ) (is : looked ≡ min (stop + 1) (length s / 3)) where
  pub looked-stop : stop + 1 ≡ length (through_stop (folded_translated t es s)) → looked ≡ codons_walked t es s
  unfolding codons_walked
  looked-stop e = rw (← e) is

  pub looked-end : length s / 3 ≤ stop → (length s + 2) / 3 ≡ length (through_stop (folded_translated t es s)) → looked ≡ codons_walked t es s
  unfolding codons_walked
  looked-end h e = rw (← e) (omega arith)

-- the first stop among the whole codons
whole_codon : (t : ℕ) (s : List ℕ) (i : ℕ) → i < length s / 3 → codon_at t (map folded (whole_codons s)) i ≡ codon_at t (map folded s) i
unfolding codon_at whole_codons
whole_codon t s i h =
    let n : ℕ = length s - length s % 3 in
    rw (
      plain_at_lem (take n s) (i * 3),
      plain_at_lem (take n s) (i * 3 + 1),
      plain_at_lem (take n s) (i * 3 + 2),
      plain_at_lem s (i * 3),
      plain_at_lem s (i * 3 + 1),
      plain_at_lem s (i * 3 + 2),
      get_or-take n s (i * 3) 0 (omega arith),
      get_or-take n s (i * 3 + 1) 0 (omega arith),
      get_or-take n s (i * 3 + 2) 0 (omega arith),
    )

module _ (t : ℕ) (es : List Exception) (s : List ℕ) where
  abbrev pub stops_from : ℕ → ℕ
  stops_from i = i + before_stop (left_from t es (whole_codons s) i)

  pub stops-all : stops_from 0 ≡ before_stop (folded_translated t es (whole_codons s))
  stops-all = omega (arith, ap before_stop (left-all t es (whole_codons s)))

  module _ (i v : ℕ) (h : i < length s / 3) (is : v ≡ residue_at t es s i) where
    codon-left : left_from t es (whole_codons s) i ≡ v ∷ left_from t es (whole_codons s) (i + 1)
    unfolding residue_at
    codon-left =
        left-more t es (whole_codons s) i (omega (arith, length_whole s))
        ∙ ap (λ (r : ℕ). r ∷ left_from t es (whole_codons s) (i + 1)) (ap (excepted es (i + 1)) (whole_codon t s i h) ∙ sym is)

    pub stops-later : (v ≡ byte "*" → ⊥) → stops_from i ≡ stops_from (i + 1)
    stops-later n =
        omega (arith, ap before_stop codon-left, before_later v (left_from t es (whole_codons s) (i + 1)) n)

    pub stops-here : v ≡ byte "*" → stops_from i ≡ i
    stops-here z = omega (arith, ap before_stop codon-left, before_here v (left_from t es (whole_codons s) (i + 1)) z)

  pub stops-none : (i : ℕ) → i ≡ length s / 3 → stops_from i ≡ i
  unfolding before_stop
  stops-none i h =
      let none : length (whole_codons s) % 3 ≡ 0 = omega (arith, length_whole s) in
      let e : left_from t es (whole_codons s) i ≡ [] = left-rest t es (whole_codons s) i (omega (arith, length_whole s)) ∙ ap rest_of none in
      omega (arith, ap before_stop e)

-- no exceptions are given
pub listed_none : (e : Exceptions) → e.count ≡ 0 → exception_list e ≡ []
unfolding exception_list
listed_none e z = rw z

-- the faster way: all letters are bases, and there are no exceptions
pub both : (plain : Bool) (e : Exceptions) → plain && eqb e.count 0 ≡ true → (plain ≡ true) × (exception_list e ≡ [])
both plain e h =
    let each = (and-eq-true_iff plain (eqb e.count 0)).0 h in
    (each.0, listed_none e (eqb-true e.count 0 each.1))
