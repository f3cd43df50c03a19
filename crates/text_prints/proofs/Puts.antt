-- Laws of bytes written into what a buffer holds, one part behind the other.
-- Assumes nothing.
use mathlib.Core.Path.{◌≡◌, ap, ◌∙◌}
use mathlib.Core.List.{List, ◌++◌, append_assoc}
use Prim.Native.Nat.{ℕ, ◌+◌, ◌-◌, ◌≤◌}
use native.Mathlib.Omega.{arith}
use borrow.Rule.Slice.PartMut.{put_mid}
use lib.ListN.{length, take, drop, length-append}
use Rattle.rules.specs.Bytes.{over}
use Rattle.rules.proofs.Over.{copied_as, front_fits, room-behind, written_behind}

-- s, known as p, copied to the front: n bytes
pub copied_whole : (s p d e : List ℕ) (n : ℕ) → s ≡ p → n ≡ length s → e ≡ take (length s) s ++ drop (length s) d → (n ≡ length p) × (e ≡ over p d)
copied_whole s p d e n q k h = (k ∙ ap length q, copied_as s p d e q h)

-- n bytes p written, known as q
pub written_as : (p q d e : List ℕ) (n : ℕ) → q ≡ p → (n ≡ length p) × (e ≡ over p d) → (n ≡ length q) × (e ≡ over q d)
written_as p q d e n is h = rw is h

-- three in a row: p, then q behind it, then r behind both
module _ (p q r d : List ℕ) (h : length (p ++ (q ++ r)) ≤ length d) (d₁ : List ℕ) (n : ℕ) (e : n ≡ length p) (is : d₁ ≡ over p d) where
  two-fit : length (p ++ q) ≤ length d
  two-fit = omega (arith, length-append p (q ++ r), length-append q r, length-append p q)

  three-fit : length (p ++ q ++ r) ≤ length d
  three-fit = rw (append_assoc p q r) h

  pub second-start : n ≤ length d₁
  second-start = front_fits p q d d₁ n e two-fit is

  pub second-room : length q ≤ length (take (length d₁ - n) (drop n d₁))
  second-room = room-behind p q d d₁ n e two-fit is

  module _ (d₂ : List ℕ) (m : ℕ) (k : m ≡ length q) (is₂ : d₂ ≡ over q (take (length d₁ - n) (drop n d₁))) where
    both : (n + m ≡ length (p ++ q)) × (put_mid n (length d₁ - n) d₁ d₂ ≡ over (p ++ q) d)
    both = written_behind p q d d₁ n e two-fit is d₂ m k is₂

    pub both-fit : n + m ≤ length d
    both-fit = omega (arith, both.0, two-fit)

    pub third-start : n + m ≤ length (put_mid n (length d₁ - n) d₁ d₂)
    third-start = front_fits (p ++ q) r d (put_mid n (length d₁ - n) d₁ d₂) (n + m) both.0 three-fit both.1

    pub third-room : length r ≤ length (take (length (put_mid n (length d₁ - n) d₁ d₂) - (n + m)) (drop (n + m) (put_mid n (length d₁ - n) d₁ d₂)))
    third-room = room-behind (p ++ q) r d (put_mid n (length d₁ - n) d₁ d₂) (n + m) both.0 three-fit both.1

    pub three : (d₃ : List ℕ) (l : ℕ) → l ≡ length r
        → d₃ ≡ over r (take (length (put_mid n (length d₁ - n) d₁ d₂) - (n + m)) (drop (n + m) (put_mid n (length d₁ - n) d₁ d₂)))
        → (n + m + l ≡ length (p ++ (q ++ r)))
        × (put_mid (n + m) (length (put_mid n (length d₁ - n) d₁ d₂) - (n + m)) (put_mid n (length d₁ - n) d₁ d₂) d₃ ≡ over (p ++ (q ++ r)) d)
    three d₃ l k₃ is₃ =
        let all = written_behind (p ++ q) r d (put_mid n (length d₁ - n) d₁ d₂) (n + m) both.0 three-fit both.1 d₃ l k₃ is₃ in
        (all.0 ∙ ap length (append_assoc p q r), all.1 ∙ ap (λ (s : List ℕ). over s d) (append_assoc p q r))
