-- Laws of `over`: what a buffer holds once lists are written to its front, one behind the other.
-- Assumes nothing.
use mathlib.Core.Path.{◌≡◌, refl, sym, ap, ◌∙◌}
use mathlib.Core.List.{List, [], ◌∷◌, ◌++◌, append_assoc, append-nil}
use Prim.Native.Nat.{ℕ, suc, ◌+◌, ◌-◌, ◌≤◌, ◌<◌}
use native.Mathlib.Numerals.{add-one}
use native.Mathlib.Omega.{arith}
use lib.ListN.{length, take, drop, get_or, set, length-append, length-drop, take-append-drop, drop_of_length-le}
use lib.Seq.{length-take-le, drop-cons, set-append_seam, take-length, take_all, take_at, drop_at, drop-drop, take-suc-set, drop-set-lt}
use borrow.Rule.Slice.PartMut.{put_mid}
use Rattle.rules.specs.Bytes.{over}

pub copied : (s d : List ℕ) → take (length s) s ++ drop (length s) d ≡ over s d
unfolding over
copied s d = rw take-length

pub length_over : (p d : List ℕ) → length p ≤ length d → length (over p d) ≡ length d
unfolding over
length_over p d h = simp (length-append, length-drop) (omega arith)

-- a buffer is no shorter than what is written there
pub fits_over : (p d d' : List ℕ) (n : ℕ) → n ≡ length p → d' ≡ over p d → n ≤ length d'
unfolding over
fits_over p d d' n e q = rw (q, length-append) (omega arith)

-- what is written is read back: all of it, all behind its first bytes, or one byte
pub read_back : (p d d' : List ℕ) (n : ℕ) → n ≡ length p → d' ≡ over p d → take n d' ≡ p
unfolding over
read_back p d d' n e q = rw q (take_at p (drop (length p) d) n (sym e))

over-append : (p q d : List ℕ) → over (p ++ q) d ≡ p ++ over q (drop (length p) d)
unfolding over
over-append p q d = simp (append_assoc, length-append, drop-drop)

-- p is at the front of the buffer, and the part behind it is lent on, for q
lent_on : (p q d : List ℕ) (n : ℕ) → n ≡ length p → length p ≤ length d → put_mid n (length (over p d) - n) (over p d) (over q (take (length (over p d) - n) (drop n (over p d)))) ≡ over (p ++ q) d
unfolding over
lent_on p q d n e h =
    let k = length (over p d) - n in
    let at : drop n (over p d) ≡ drop (length p) d = drop_at p (drop (length p) d) n (sym e) in
    let all : take k (drop n (over p d)) ≡ drop (length p) d = take_all k (drop n (over p d)) (rw length-drop (omega arith)) ∙ at in
    let none : drop k (drop n (over p d)) ≡ [] = drop_of_length-le (drop n (over p d)) {i = k} (rw length-drop (omega arith)) in
    simp (take_at p (drop (length p) d) n (sym e), all, none, append-nil) (sym (over-append p q d))

-- the same, of the lists that two calls leave
pub lent_on_by : (p q d d₁ d₂ : List ℕ) (n : ℕ) → n ≡ length p → length p ≤ length d → d₁ ≡ over p d → d₂ ≡ over q (take (length d₁ - n) (drop n d₁)) → put_mid n (length d₁ - n) d₁ d₂ ≡ over (p ++ q) d
lent_on_by p q d d₁ d₂ n e h e₁ e₂ = rw (e₂, e₁) (lent_on p q d n e h)

-- a part from a place to the end
pub tail-is : (a : ℕ) (s : List ℕ) → take (length s - a) (drop a s) ≡ drop a s
tail-is a s = take_all (length s - a) (drop a s) (rw length-drop (omega arith))

-- what `bytes::copy` of s leaves, where s is known as p
pub copied_as : (s p d e : List ℕ) → s ≡ p → e ≡ take (length s) s ++ drop (length s) d → e ≡ over p d
copied_as s p d e q h = h ∙ copied s d ∙ ap (λ (l : List ℕ). over l d) q

-- what a loop has still to write: p, from place n on
unfoldable pub over_from : ℕ → List ℕ → List ℕ → List ℕ
over_from n p d = take n d ++ over p (drop n d)

pub from_start : (p d : List ℕ) → over_from 0 p d ≡ over p d
unfolding over_from
from_start p d = refl

pub from_end : (n : ℕ) (d : List ℕ) → over_from n [] d ≡ d
unfolding over_from over
from_end n d = take-append-drop n d

-- a turn stores its first
from_more : (n x : ℕ) (p d : List ℕ) → n < length d → over_from n (x ∷ p) d ≡ over_from (n + 1) p (set d n x)
unfolding over_from over
from_more n x p d h =
    let e : n + suc (length p) ≡ suc n + length p = omega arith in
    rw (add-one, take-suc-set d n x h, drop-set-lt (suc n) d n x (omega arith)) (simp (append_assoc, drop-drop, e))

pub from_turn : (n x : ℕ) (p q d e : List ℕ) → n < length d → p ≡ x ∷ q → over_from n p d ≡ e → over_from (n + 1) q (set d n x) ≡ e
from_turn n x p q d e h t i = sym (from_more n x q d h) ∙ ap (λ (l : List ℕ). over_from n l d) (sym t) ∙ i

-- a byte at the front
pub stored_first : (x : ℕ) (d : List ℕ) → 1 ≤ length d → set d 0 x ≡ over (x ∷ []) d
unfolding over
stored_first x [] h = absurd (omega arith)
stored_first x (y ∷ d) h = refl

-- a byte behind what is written
pub stored_behind : (p d d' : List ℕ) (n x : ℕ) → n ≡ length p → length p < length d → d' ≡ over p d → set d' n x ≡ over (p ++ (x ∷ [])) d
unfolding over
stored_behind p d d' n x e h q =
    let more : length (p ++ (x ∷ [])) ≡ suc (length p) = length-append p (x ∷ []) ∙ add-one (length p) in
    rw (e, q, more, drop-cons d (length p) 0 h, set-append_seam p (get_or d (length p) 0) (drop (suc (length p)) d) x)
    (sym (append_assoc p (x ∷ []) (drop (suc (length p)) d)))

-- two bytes at the front
pub stored_two : (x y : ℕ) (d : List ℕ) → 2 ≤ length d → set (set d 0 x) 1 y ≡ over (x ∷ y ∷ []) d
unfolding over
stored_two x y [] h = absurd (omega arith)
stored_two x y (a ∷ []) h = absurd (omega arith)
stored_two x y (a ∷ b ∷ d) h = refl

-- p is at the front of the buffer d, n bytes of it, and the part behind is lent on for q
module _ (p q d d₁ : List ℕ) (n : ℕ) (e : n ≡ length p) (h : length (p ++ q) ≤ length d) (is : d₁ ≡ over p d) where
  fits : length p ≤ length d
  fits = omega (arith, length-append p q)

  pub front_fits : n ≤ length d₁
  front_fits = omega (arith, fits, ap length is, length_over p d fits)

  pub room-behind : length q ≤ length (take (length d₁ - n) (drop n d₁))
  room-behind =
      let all : length (take (length d₁ - n) (drop n d₁)) ≡ length d₁ - n = length-take-le (length d₁ - n) (drop n d₁) (rw length-drop (omega arith)) in
      omega (arith, fits, ap length is, length_over p d fits, length-append p q)

  -- m bytes more
  pub written_behind : (d₂ : List ℕ) (m : ℕ) → m ≡ length q → d₂ ≡ over q (take (length d₁ - n) (drop n d₁))
      → (n + m ≡ length (p ++ q)) × (put_mid n (length d₁ - n) d₁ d₂ ≡ over (p ++ q) d)
  written_behind d₂ m k is₂ = (omega (arith, length-append p q), lent_on_by p q d d₁ d₂ n e fits is is₂)
