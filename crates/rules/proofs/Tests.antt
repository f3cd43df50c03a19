-- Laws of tests and of the first that holds.
-- Assumes nothing.
use Rattle.std.specs.Prelude.{if◌then◌else◌}
use mathlib.Core.Path.{◌≡◌, refl, sym, ap, ◌∙◌}
use mathlib.Core.Bool.{Bool, true, false, ◌&&◌, ◌||◌}
use mathlib.Core.List.{List, [], ◌∷◌, ◌++◌, map, reverse, reverse_aux}
use Prim.Native.Nat.{ℕ, suc}
use native.Mathlib.Omega.{arith}
use lib.Dec.{ltb}
use lib.ListN.{take, drop, take-append-drop}
use borrow.Author.Tests.{ltb-true}
use Rattle.rules.specs.Bytes.{all, Test, ◌↯◌, first_number}
use Rattle.rules.proofs.Lists.{all_append}

pub and_left : (a b : Bool) → (a && b) ≡ true → a ≡ true
and_left true b h = refl
and_left false b h = h

pub and_right : (a b : Bool) → (a && b) ≡ true → b ≡ true
and_right true b h = h
and_right false b h = cc

pub and_both : (a b : Bool) → a ≡ true → b ≡ true → (a && b) ≡ true
and_both a b h k = rw (h, k)

pub or_left : (a b : Bool) → (a || b) ≡ false → a ≡ false
or_left true b h = h
or_left false b h = refl

pub or_right : (a b : Bool) → (a || b) ≡ false → b ≡ false
or_right true b h = cc
or_right false b h = h

pub and_implies : (a b : Bool) → (a && b) ≡ false → a ≡ true → b ≡ false
and_implies true b h k = h
and_implies false b h k = cc

-- none of the tests before another holds
pub first_clear : (b : Bool) (n : ℕ) (ts : List Test) → first_number (b ↯ suc n ∷ ts) ≡ 0 → (b ≡ false) × (first_number ts ≡ 0)
unfolding first_number
first_clear true n ts h = absurd (omega arith)
first_clear false n ts h = (refl, h)

-- tests whose numbers are refusals
abbrev pub are_numbered : List Test → Bool
are_numbered = all (λ (t : Test). ltb 0 t.number)

-- the tests behind others count where none of those holds
pub first_behind : (ts us : List Test) → are_numbered ts ≡ true → first_number ts ≡ 0 → first_number (ts ++ us) ≡ first_number us
unfolding first_number all
first_behind [] us p h = refl
first_behind (t ∷ ts) us p h = at t.holds h (first_behind ts us (and_right (ltb 0 t.number) (are_numbered ts) p))
  where
    at : (b : Bool) → (if b then t.number else first_number ts) ≡ 0 → (first_number ts ≡ 0 → first_number (ts ++ us) ≡ first_number us) → (if b then t.number else first_number (ts ++ us)) ≡ first_number us
    at true h k = absurd (omega (arith, ltb-true 0 t.number (and_left (ltb 0 t.number) (are_numbered ts) p)))
    at false h k = k h

-- and don't where one does
pub first_before : (ts us : List Test) (n : ℕ) → first_number ts ≡ suc n → first_number (ts ++ us) ≡ suc n
unfolding first_number
first_before [] us n h = absurd (omega arith)
first_before (t ∷ ts) us n h = at t.holds h (first_before ts us n)
  where
    at : (b : Bool) → (if b then t.number else first_number ts) ≡ suc n → (first_number ts ≡ suc n → first_number (ts ++ us) ≡ suc n) → (if b then t.number else first_number (ts ++ us)) ≡ suc n
    at true h k = h
    at false h k = k h

-- each element of a part, of two lists in a row, of a list backwards
module _ {A : Type 0} (p : A → Bool) where
  pub all_take : (n : ℕ) (s : List A) → all p s ≡ true → all p (take n s) ≡ true
  all_take n s h = and_left (all p (take n s)) (all p (drop n s)) (sym (all_append p (take n s) (drop n s)) ∙ ap (all p) (take-append-drop n s) ∙ h)

  pub all_drop : (n : ℕ) (s : List A) → all p s ≡ true → all p (drop n s) ≡ true
  all_drop n s h = and_right (all p (take n s)) (all p (drop n s)) (sym (all_append p (take n s) (drop n s)) ∙ ap (all p) (take-append-drop n s) ∙ h)

  pub all_both : (s t : List A) → all p s ≡ true → all p t ≡ true → all p (s ++ t) ≡ true
  all_both s t h k = all_append p s t ∙ and_both (all p s) (all p t) h k

  all-aux : (s t : List A) → all p s ≡ true → all p t ≡ true → all p (reverse_aux s t) ≡ true
  unfolding all
  all-aux [] t h k = k
  all-aux (x ∷ s) t h k = all-aux s (x ∷ t) (and_right (p x) (all p s) h) (and_both (p x) (all p t) (and_left (p x) (all p s) h) k)

  pub all-reverse : (s : List A) → all p s ≡ true → all p (reverse s) ≡ true
  unfolding all
  all-reverse s h = all-aux s [] h refl

  pub all_map : (f : A → A) → ((x : A) → p x ≡ true → p (f x) ≡ true) → (s : List A) → all p s ≡ true → all p (map f s) ≡ true
  unfolding all
  all_map f h [] k = refl
  all_map f h (x ∷ s) k = and_both (p (f x)) (all p (map f s)) (h x (and_left (p x) (all p s) k)) (all_map f h s (and_right (p x) (all p s) k))
