-- Laws of a proposal that replays, with what the calls answer as variables.
-- Assumes nothing.
use mathlib.Core.Path.{◌≡◌, refl, sym, ap, ◌∙◌}
use mathlib.Core.Bool.{Bool, false, ◌&&◌, and_assoc}
use mathlib.Core.List.{List, [], ◌∷◌, ◌++◌}
use Prim.Native.Nat.{ℕ, ◌+◌, ◌-◌, ◌≤◌, ◌<◌, min}
use native.Mathlib.Omega.{arith}
use lib.Dec.{eqb}
use lib.ListN.{length, take, drop, length-append, length-take, length-drop, take-append-drop}
use lib.Seq.{length-take-le, take_at, drop_at, drop-drop}
use Rattle.rules.specs.Bytes.{same}
use Rattle.rules.specs.Record.{replayed}
use Rattle.rules.specs.Check.{stands}
use Rattle.rules.proofs.Over.{tail-is}
use Rattle.rules.proofs.Trims.{same_lengths}
use Rattle.replays.specs.Proposed.{proposed}

-- the residues before a number are the first k, whether or not the number lies behind R
module _ (R : List ℕ) (n k : ℕ) (e : k ≡ min n (length R)) where
  counted : length (take n R) ≡ k
  counted = length-take n R ∙ sym e

  take-before : take n R ≡ take k R
  take-before = sym (ap (take k) (sym (take-append-drop n R)) ∙ take_at (take n R) (drop n R) k counted)

  drop-before : drop n R ≡ drop k R
  drop-before = sym (ap (drop k) (sym (take-append-drop n R)) ∙ drop_at (take n R) (drop n R) k counted)

  drop-behind : (d : ℕ) → drop (n + d) R ≡ drop (k + d) R
  drop-behind d = sym (drop-drop d n R) ∙ ap (drop d) drop-before ∙ drop-drop d k R

-- what stands in R at a number
module _ (number : ℕ) (D put R : List ℕ) (k : ℕ) (e : k ≡ min (number - 1) (length R)) where
  at_place : same (take (length D) (drop k R)) D ≡ stands (proposed number D put) R
  unfolding stands
  at_place = rw (drop-before R (number - 1) k e)

  pub stands-there : same (take (k + length D - k) (drop k R)) D ≡ stands (proposed number D put) R
  stands-there = let there : k + length D - k ≡ length D = omega arith in rw there at_place

  pub stands-not : length R - k < length D → false ≡ stands (proposed number D put) R
  stands-not h = sym (same_lengths (take (length D) (drop k R)) D (λ q. omega (arith, length-take (length D) (drop k R), length-drop k R))) ∙ at_place

-- two lists in a row are the same as a third where each is the same as its part
same-append : (p q a : List ℕ) → same (p ++ q) a ≡ same p (take (length p) a) && same q (drop (length p) a)
unfolding same
same-append [] q a = refl
same-append (x ∷ p) q [] = refl
same-append (x ∷ p) q (y ∷ a) = rw (same-append p q a) (sym (and_assoc (eqb x y) (same p (take (length p) a)) (same q (drop (length p) a))))

-- R with P for the residues from `at` to `end`
module _ (R A P : List ℕ) (at end : ℕ) (within : at ≤ length R) where
  pub too_short : length A < at + length P → false ≡ same (take at R ++ (P ++ drop end R)) A
  too_short h =
      sym (same_lengths (take at R ++ (P ++ drop end R)) A
      (λ q. omega (arith, length-append (take at R) (P ++ drop end R), length-append P (drop end R), length-take-le at R within)))

  pub three-parts : (a b c : Bool) → a ≡ same (take at R) (take at A) → b ≡ same P (take (at + length P - at) (drop at A))
      → c ≡ same (take (length R - end) (drop end R)) (take (length A - (at + length P)) (drop (at + length P) A))
      → a && b && c ≡ same (take at R ++ (P ++ drop end R)) A
  three-parts a b c e f g =
      let there : at + length P - at ≡ length P = omega arith in
      rw (
        e,
        f,
        g,
        there,
        tail-is end R,
        tail-is (at + length P) A,
        same-append (take at R) (P ++ drop end R) A,
        length-take-le at R within,
        same-append P (drop end R) (drop at A),
        drop-drop (length P) at A,
      )
      (and_assoc (same (take at R) (take at A)) (same P (take (length P) (drop at A))) (same (drop end R) (drop (at + length P) A)))

-- the places of the residues that give way, whether or not the number lies behind R
pub replayed_at : (number : ℕ) (D put R A : List ℕ) (k end : ℕ) (given : Bool) → k ≡ min (number - 1) (length R) → end ≡ min (k + length D) (length R)
    → given ≡ same (take k R ++ (put ++ drop end R)) A → given ≡ same (replayed number D put R) A
unfolding replayed
replayed_at number D put R A k end given e f g =
    rw (take-before R (number - 1) k e, drop-behind R (number - 1) k e (length D), drop-before R (k + length D) end f) g
