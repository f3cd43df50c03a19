-- Expanding a codon one letter at a time gives the codon rule. Assumes nothing.
use Rattle.std.specs.Prelude.{if◌then◌else◌}
use mathlib.Core.List.{List, [], ◌∷◌, ◌++◌}
use mathlib.Core.Bool.{Bool, true, false, ◌&&◌, ◌||◌, not}
use mathlib.Core.Path.{◌≡◌, refl, sym, ap, ◌∙◌}
use Prim.Native.Nat.{ℕ, zero, suc, ◌+◌, ◌*◌, ◌/◌, ◌%◌, ◌<◌}
use native.Mathlib.Omega.{arith}
use lib.Dec.{eqb}
use lib.ListN.{get_or}
use borrow.Author.Tests.{eqb-true, eqb-false}
use Rattle.rules.specs.Bytes.{byte}
use Rattle.rules.specs.Codons.{residue_x, genetic_code, plain_codon, with_base, bases_of, for_each, residues, all_are, is_among, no_third, mixed, agreed, codon_rule}
use Rattle.mixes.specs.Mixes.{mixed_with}
use Rattle.codon_reader.specs.Expansion.{expanded, joined_all}
use Rattle.letters.proofs.Sets.{and_left, and_right}

each_same : (is : List ℕ) (f g : ℕ → List ℕ) → ((i : ℕ) → f i ≡ g i) → for_each is f ≡ for_each is g
each_same [] f g same = refl
each_same (i ∷ is) f g same = rw (same i, each_same is f g same)

expanded-all : (t a b c : ℕ) → expanded 3 t (a ∷ b ∷ c ∷ []) 0 ≡ residues t a b c
unfolding expanded
expanded-all t a b c =
    each_same (bases_of a) _ _ λ i. each_same (bases_of b) _ _ λ j. each_same (bases_of c) _ _ λ k.
    ap (λ (place : ℕ). get_or (genetic_code t) place residue_x ∷ []) (omega arith)

-- a set that is not empty has a base
abbrev Some : List ℕ → Type 0
Some [] = ⊥
Some (x ∷ xs) = Unit {0}

some_base_of : (p q r u : ℕ) → (p ≡ 0 → q ≡ 0 → r ≡ 0 → u ≡ 0 → ⊥) → Some (with_base p 0 (with_base q 1 (with_base r 2 (with_base u 3 []))))
some_base_of (suc p) q r u h = tt
some_base_of zero (suc q) r u h = tt
some_base_of zero zero (suc r) u h = tt
some_base_of zero zero zero (suc u) h = tt
some_base_of zero zero zero zero h = absurd (h refl refl refl refl)

below_two : (x : ℕ) → x < 2 → x % 2 ≡ 0 → x ≡ 0
below_two zero h e = refl
below_two (suc zero) h e = omega arith
below_two (suc (suc x)) h e = omega arith

some_base : (s : ℕ) → 0 < s → s < 16 → Some (bases_of s)
some_base s h h' =
    some_base_of (s / 8 % 2) (s / 2 % 2) (s / 1 % 2) (s / 4 % 2) λ t c a g.
    let e8 : s / 8 ≡ 0 = below_two (s / 8) (omega arith) t in
    let e4 : s / 4 ≡ 0 = below_two (s / 4) (omega arith) g in
    let e2 : s / 2 ≡ 0 = below_two (s / 2) (omega arith) c in
    let e1 : s / 1 ≡ 0 = below_two (s / 1) (omega arith) a in
    omega arith

-- no residue of a plain codon is 0, B or Z
abbrev Plain : ℕ → Type 0
Plain r = (eqb r 0 ≡ false) × ((eqb r (byte "B") ≡ false) × (eqb r (byte "Z") ≡ false))

abbrev AllPlain : List ℕ → Type 0
AllPlain [] = Unit {0}
AllPlain (r ∷ rs) = Plain r × AllPlain rs

abbrev are_plain : List ℕ → Bool
are_plain [] = true
are_plain (r ∷ rs) = not (eqb r 0 || eqb r (byte "B") || eqb r (byte "Z")) && are_plain rs

plain_of : (r : ℕ) → not (eqb r 0 || eqb r (byte "B") || eqb r (byte "Z")) ≡ true → Plain r
plain_of r t = by (eqb r 0) (eqb r (byte "B")) (eqb r (byte "Z")) t
  where
    by : (a b c : Bool) → not (a || b || c) ≡ true → (a ≡ false) × ((b ≡ false) × (c ≡ false))
    by true b c e = (cc, (cc, cc))
    by false true c e = (refl, (cc, cc))
    by false false true e = (refl, (refl, cc))
    by false false false e = (refl, (refl, refl))

plain_at_lem : (rs : List ℕ) (k d : ℕ) → are_plain rs ≡ true → Plain d → Plain (get_or rs k d)
plain_at_lem [] k d t h = h
plain_at_lem (r ∷ rs) zero d t h = plain_of r (and_left _ (are_plain rs) t)
plain_at_lem (r ∷ rs) (suc k) d t h =
    plain_at_lem rs k d (and_right (not (eqb r 0 || eqb r (byte "B") || eqb r (byte "Z"))) (are_plain rs) t) h

plain_X : Plain residue_x
plain_X = plain_of residue_x refl

plain_codon-is : (t i j k : ℕ) → Plain (plain_codon t i j k)
plain_codon-is zero i j k = plain_at_lem (genetic_code 0) (i * 16 + j * 4 + k) residue_x refl plain_X
plain_codon-is (suc zero) i j k = plain_at_lem (genetic_code 1) (i * 16 + j * 4 + k) residue_x refl plain_X
plain_codon-is (suc (suc zero)) i j k = plain_at_lem (genetic_code 2) (i * 16 + j * 4 + k) residue_x refl plain_X
plain_codon-is (suc (suc (suc t))) i j k = plain_X

plain-append : (xs ys : List ℕ) → AllPlain xs → AllPlain ys → AllPlain (xs ++ ys)
plain-append [] ys h l = l
plain-append (x ∷ xs) ys h l = (h.0, plain-append xs ys h.1 l)

plain_each : (is : List ℕ) (f : ℕ → List ℕ) → ((i : ℕ) → AllPlain (f i)) → AllPlain (for_each is f)
plain_each [] f h = tt
plain_each (i ∷ is) f h = plain-append (f i) (for_each is f) (h i) (plain_each is f h)

plain_residues : (t : ℕ) (as' bs cs : List ℕ) → AllPlain (for_each as' λ i. for_each bs λ j. for_each cs λ k. plain_codon t i j k ∷ [])
plain_residues t as' bs cs =
    plain_each as' _ λ i. plain_each bs _ λ j. plain_each cs _ λ k. (plain_codon-is t i j k, tt)

-- which of the four that mix a residue is
data Sort (r : ℕ) : Type 0 where
  is_d : r ≡ byte "D" → Sort r
  is_n : r ≡ byte "N" → Sort r
  is_e : r ≡ byte "E" → Sort r
  is_q : r ≡ byte "Q" → Sort r
  other : eqb r (byte "D") ≡ false → eqb r (byte "N") ≡ false → eqb r (byte "E") ≡ false → eqb r (byte "Q") ≡ false → Sort r

sort : (r : ℕ) → Sort r
sort r = by (eqb r (byte "D")) (eqb r (byte "N")) (eqb r (byte "E")) (eqb r (byte "Q")) refl refl refl refl
  where
    by : (d n e q : Bool) → eqb r (byte "D") ≡ d → eqb r (byte "N") ≡ n → eqb r (byte "E") ≡ e → eqb r (byte "Q") ≡ q → Sort r
    by true n e q hd hn he hq = is_d (eqb-true r (byte "D") hd)
    by false true e q hd hn he hq = is_n (eqb-true r (byte "N") hn)
    by false false true q hd hn he hq = is_e (eqb-true r (byte "E") he)
    by false false false true hd hn he hq = is_q (eqb-true r (byte "Q") hq)
    by false false false false hd hn he hq = other hd hn he hq

-- joining a row of residues: X stays; B stays beside D and N, and Z beside E and Q
same_either : (b : Bool) → (if b then residue_x else residue_x) ≡ residue_x
same_either true = refl
same_either false = refl

stays_X : (xs : List ℕ) → joined_all residue_x xs ≡ residue_x
unfolding joined_all
stays_X [] = refl
stays_X (x ∷ xs) = rw (same_either (eqb x residue_x)) (stays_X xs)

stays_case : (m : ℕ) (either : Bool) (xs : List ℕ) (rest : Bool) → joined_all m xs ≡ (if rest then m else residue_x)
    → joined_all (if either || false then m else residue_x) xs ≡ (if (if either then rest else false) then m else residue_x)
stays_case m true xs rest h = h
stays_case m false xs rest h = stays_X xs

stays_B : (xs : List ℕ) → AllPlain xs → joined_all (byte "B") xs ≡ (if no_third (byte "D") (byte "N") xs then byte "B" else residue_x)
unfolding joined_all
stays_B [] h = refl
stays_B (x ∷ xs) h = rw h.0.1.0 (stays_case (byte "B") (eqb x (byte "D") || eqb x (byte "N")) xs _ (stays_B xs h.1))

stays_Z : (xs : List ℕ) → AllPlain xs → joined_all (byte "Z") xs ≡ (if no_third (byte "E") (byte "Q") xs then byte "Z" else residue_x)
unfolding joined_all
stays_Z [] h = refl
stays_Z (x ∷ xs) h = rw h.0.1.1 (stays_case (byte "Z") (eqb x (byte "E") || eqb x (byte "Q")) xs _ (stays_Z xs h.1))

-- both of a pair are there, so that what decides is a third
both_there : (b : Bool) (m : ℕ) → (if b && true && true then m else residue_x) ≡ (if b then m else residue_x)
both_there true m = refl
both_there false m = refl

-- two that differ, then the others
module _ (xs : List ℕ) (plain : AllPlain xs) where
  pair : (r x : ℕ) → Plain r → Plain x → (x ≡ r → ⊥) → Sort r → Sort x → joined_all (mixed_with r x) xs ≡ mixed (r ∷ x ∷ xs)
  pair r x p q n (is_d e) (is_n f) = rw (e, f) (stays_B xs plain ∙ sym (both_there (no_third (byte "D") (byte "N") xs) (byte "B")))
  pair r x p q n (is_n e) (is_d f) = rw (e, f) (stays_B xs plain ∙ sym (both_there (no_third (byte "D") (byte "N") xs) (byte "B")))
  pair r x p q n (is_e e) (is_q f) = rw (e, f) (stays_Z xs plain ∙ sym (both_there (no_third (byte "E") (byte "Q") xs) (byte "Z")))
  pair r x p q n (is_q e) (is_e f) = rw (e, f) (stays_Z xs plain ∙ sym (both_there (no_third (byte "E") (byte "Q") xs) (byte "Z")))
  pair r x p q n (is_d e) (is_d f) = absurd (n (f ∙ sym e))
  pair r x p q n (is_n e) (is_n f) = absurd (n (f ∙ sym e))
  pair r x p q n (is_e e) (is_e f) = absurd (n (f ∙ sym e))
  pair r x p q n (is_q e) (is_q f) = absurd (n (f ∙ sym e))
  pair r x p q n (is_d e) (is_e f) = rw (e, f) (stays_X xs)
  pair r x p q n (is_d e) (is_q f) = rw (e, f) (stays_X xs)
  pair r x p q n (is_n e) (is_e f) = rw (e, f) (stays_X xs)
  pair r x p q n (is_n e) (is_q f) = rw (e, f) (stays_X xs)
  pair r x p q n (is_e e) (is_d f) = rw (e, f) (stays_X xs)
  pair r x p q n (is_e e) (is_n f) = rw (e, f) (stays_X xs)
  pair r x p q n (is_q e) (is_d f) = rw (e, f) (stays_X xs)
  pair r x p q n (is_q e) (is_n f) = rw (e, f) (stays_X xs)
  pair r x p q n (is_d e) (other hd hn he hq) = rw (e, hd, hn, q.1.0) (stays_X xs)
  pair r x p q n (is_n e) (other hd hn he hq) = rw (e, hd, hn, q.1.0) (stays_X xs)
  pair r x p q n (is_e e) (other hd hn he hq) = rw (e, he, hq, q.1.1) (stays_X xs)
  pair r x p q n (is_q e) (other hd hn he hq) = rw (e, he, hq, q.1.1) (stays_X xs)
  pair r x p q n (other hd hn he hq) s = rw (hd, hn, he, hq, p.1.0, p.1.1) (stays_X xs)

-- a residue again changes nothing of what the row agrees on
third_again : (r x y : ℕ) (xs : List ℕ) → no_third x y (r ∷ r ∷ xs) ≡ no_third x y (r ∷ xs)
third_again r x y xs = by (eqb r x || eqb r y)
  where
    by : (b : Bool) → (if b then (if b then no_third x y xs else false) else false) ≡ (if b then no_third x y xs else false)
    by true = refl
    by false = refl

among_again : (r x : ℕ) (xs : List ℕ) → is_among x (r ∷ r ∷ xs) ≡ is_among x (r ∷ xs)
among_again r x xs = by (eqb r x)
  where
    by : (b : Bool) → (if b then true else (if b then true else is_among x xs)) ≡ (if b then true else is_among x xs)
    by true = refl
    by false = refl

mixed_again : (r : ℕ) (xs : List ℕ) → mixed (r ∷ r ∷ xs) ≡ mixed (r ∷ xs)
mixed_again r xs =
    rw (third_again r (byte "D") (byte "N") xs, among_again r (byte "D") xs, among_again r (byte "N") xs, third_again r (byte "E") (byte "Q") xs, among_again r (byte "E") xs, among_again r (byte "Q") xs)

-- joining a row of residues is what they agree on
joined_from : (r : ℕ) (xs : List ℕ) → Plain r → AllPlain xs → joined_all r xs ≡ agreed (r ∷ xs)
unfolding joined_all
joined_from r [] p h = refl
joined_from r (x ∷ xs) p h = rw p.0 (by (eqb x r) refl (joined_from r xs p h.1))
  where
    by : (b : Bool) → eqb x r ≡ b → joined_all r xs ≡ agreed (r ∷ xs) → joined_all (if b then r else mixed_with r x) xs ≡ (if (if b then all_are r xs else false) then r else mixed (r ∷ x ∷ xs))
    by true e rest = rw (eqb-true x r e) (rest ∙ ap (λ (m : ℕ). if all_are r xs then r else m) (sym (mixed_again r xs)))
    by false e rest = pair xs h.1 r x p h.0 (eqb-false x r e) (sort r) (sort x)

agreed_list : (r : ℕ) (xs : List ℕ) → Plain r → AllPlain xs → joined_all 0 (r ∷ xs) ≡ agreed (r ∷ xs)
unfolding joined_all
agreed_list r xs p h = joined_from r xs p h

-- the rule, over the three sets' bases
agreed-all : (t : ℕ) (as' bs cs : List ℕ) → Some as' → Some bs → Some cs
    → joined_all 0 (for_each as' λ i. for_each bs λ j. for_each cs λ k. plain_codon t i j k ∷ [])
    ≡ agreed (for_each as' λ i. for_each bs λ j. for_each cs λ k. plain_codon t i j k ∷ [])
agreed-all t [] bs cs ha hb hc = absurd ha
agreed-all t (i ∷ is) [] cs ha hb hc = absurd hb
agreed-all t (i ∷ is) (j ∷ js) [] ha hb hc = absurd hc
agreed-all t (i ∷ is) (j ∷ js) (k ∷ ks) ha hb hc =
    let plain = plain_residues t (i ∷ is) (j ∷ js) (k ∷ ks) in agreed_list (plain_codon t i j k) _ plain.0 plain.1

-- joining the residues of all plain codons gives the codon rule
by_plain : (t a b c : ℕ) → (0 < a) × (a < 16) → (0 < b) × (b < 16) → (0 < c) × (c < 16) → joined_all 0 (residues t a b c) ≡ codon_rule t a b c
unfolding codon_rule
by_plain t a b c ha hb hc =
    agreed-all t (bases_of a) (bases_of b) (bases_of c) (some_base a ha.0 ha.1) (some_base b hb.0 hb.1) (some_base c hc.0 hc.1)

pub by_letters : (t a b c : ℕ) → (0 < a) × (a < 16) → (0 < b) × (b < 16) → (0 < c) × (c < 16)
    → joined_all 0 (expanded 3 t (a ∷ b ∷ c ∷ []) 0) ≡ codon_rule t a b c
by_letters t a b c ha hb hc = ap (joined_all 0) (expanded-all t a b c) ∙ by_plain t a b c ha hb hc
