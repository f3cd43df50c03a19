-- A test of each byte of a string, part by part. Assumes nothing.
use mathlib.Core.Path.{◌≡◌, refl, sym, ap, ◌∙◌}
use mathlib.Core.Bool.{Bool, true, false, ◌&&◌, and-false}
use mathlib.Core.List.{List}
use Prim.Native.Nat.{ℕ, ◌+◌, ◌-◌, ◌*◌, ◌≤◌, ◌<◌}
use native.Mathlib.Omega.{arith}
use lib.ListN.{length, take, drop, length-drop, take-append-drop}
use lib.Seq.{take-add}
use Rattle.std.proofs.lemmas.Nat.{rows}
use Rattle.rules.specs.Bytes.{all}
use Rattle.rules.proofs.Lists.{all_append}
use Rattle.rules.proofs.Over.{tail-is}
use Rattle.letters.proofs.Loops.{both-parts}

-- block k of n bytes ends within the blocks
pub block-fits : (k n blocks : ℕ) → k < blocks → k * n + n ≤ blocks * n
block-fits k n blocks h = grind (arith, rows)

module _ (p : ℕ → Bool) (s : List ℕ) where
  -- the first bytes and those behind them
  front : (m : ℕ) → all p s ≡ all p (take m s) && all p (drop m s)
  front m = ap (all p) (sym (take-append-drop m s)) ∙ all_append p (take m s) (drop m s)

  pub front-fails : (m : ℕ) (r : Bool) → r ≡ all p (take m s) → r ≡ false → false ≡ all p s
  front-fails m r is bad = sym (front m ∙ rw (← is, bad))

  -- more of them
  more : (m n : ℕ) → all p (take (m + n) s) ≡ all p (take m s) && all p (take n (drop m s))
  more m n = ap (all p) (take-add m n s) ∙ all_append p (take m s) (take n (drop m s))

  more-fail : (m n : ℕ) (r : Bool) → r ≡ all p (take n (drop m s)) → r ≡ false → all p (take (m + n) s) ≡ false
  more-fail m n r is bad = more m n ∙ rw (← is, bad) (and-false (all p (take m s)))

  pub next-fails : (m n : ℕ) (r : Bool) → r ≡ all p (take n (take (length s - m) (drop m s))) → r ≡ false → false ≡ all p s
  next-fails m n r is bad = front-fails (m + n) false (sym (more-fail m n r (rw (tail-is m s) at is) bad)) refl

  -- all but the last bytes passed, and these are tested by themselves
  pub last-decides : (m n k : ℕ) (q r : Bool) → q ≡ all p (take m s) → q ≡ true → r ≡ all p (take n (take (length s - m) (drop m s))) → r ≡ true → k ≤ m + n → {last : Bool} → last ≡ all p (take (length s - k) (drop k s)) → last ≡ all p s
  last-decides m n k q r is good is' good' h {last} is'' =
      both-parts p s (m + n) k h is'' {q = true} (sym (more m n ∙ rw (← is, good, ← rw (tail-is m s) at is', good')))

pub length-rest : (m : ℕ) (s : List ℕ) → length (take (length s - m) (drop m s)) ≡ length s - m
length-rest m s = ap (λ (l : List ℕ). length l) (tail-is m s) ∙ length-drop m s

-- a block of n bytes behind others
module _ (p : ℕ → Bool) (s : List ℕ) where
  pub none-fails : (n : ℕ) → all p (take (0 * n) s) ≡ true
  unfolding all
  none-fails n =
      let none : 0 * n ≡ 0 = omega arith in
      rw none

  pub block-fails : (m end whole : ℕ) (r : Bool) → m ≤ end → r ≡ all p (take (end - m) (drop m s)) → r ≡ false → end ≤ whole → false ≡ all p (take whole s)
  block-fails m end whole r h is bad g =
      let to : end ≡ m + (end - m) = omega arith in
      let on : end + (whole - end) ≡ whole = omega arith in
      let some : all p (take end s) ≡ false = ap (λ (n : ℕ). all p (take n s)) to ∙ more-fail p s m (end - m) r is bad in
      sym (ap (λ (n : ℕ). all p (take n s)) (sym on) ∙ more p s end (whole - end) ∙ rw some)

  pub block-passes : (k n : ℕ) (r : Bool) → r ≡ all p (take (k * n + n - k * n) (drop (k * n) s)) → r ≡ true → all p (take (k * n) s) ≡ true → all p (take ((k + 1) * n) s) ≡ true
  block-passes k n r is good before =
      let few : k * n + n - k * n ≡ n = omega arith in
      let next : (k + 1) * n ≡ k * n + n = grind (arith, rows) in
      rw (next, more p s (k * n) n, before) (sym (rw few at is) ∙ good)
