-- `position` and `range` at a place of a line, from what the parsers below answer there.
-- Assumes nothing.
use Rattle.std.specs.Prelude.{if◌then◌else◌, None, Some}
use Rattle.std.specs.Prelude.{Option as Returned}
use mathlib.Core.Path.{◌≡◌, sym, ap, ◌∙◌}
use mathlib.Core.Bool.{Bool, true, false}
use mathlib.Core.List.{List, ◌∷◌}
use mathlib.Core.Option.{none}
use Prim.Native.Nat.{ℕ, suc, ◌+◌, ◌≤◌, ◌<◌}
use native.Mathlib.Numerals.{add-one}
use native.Mathlib.Omega.{arith}
use borrow.Author.Tests.{eq-eqb, ne_eqb}
use lib.Dec.{eqb}
use lib.ListN.{length, drop, get_or, drop_of_length-le}
use lib.Seq.{drop-cons}
use Rattle.rules.specs.declared.Position.{Position}
use Rattle.rules.specs.declared.Position.TheVariants.{Plus, Minus, Star}
use Rattle.rules.specs.Number.{number}
use Rattle.rules.specs.Line.{placed, position, joined, range}
use Rattle.text_numbers.specs.declared.NumberAt.{NumberAt}
use Rattle.text_numbers.specs.Views.{number_in}
use Rattle.text_forms.specs.declared.position.PositionAt.{PositionAt}
use Rattle.text_forms.specs.declared.position.RangeAt.{RangeAt}
use Rattle.text_forms.specs.Views.{signs, signed, placed_in, range_in}

module _ (line : List ℕ) (at : ℕ) where
  pub position_past : length line ≤ at → none ≡ position (drop at line)
  unfolding position
  position_past h = rw (drop_of_length-le line {i = at} h)

  module _ (h : at < length line) where
    abbrev first : ℕ
    first = get_or line at 0

    -- the position is a number behind its sign, if it has one
    by_sign : (t u : Bool)
        → (if t then placed Minus (drop (suc at) line) else if u then placed Star (drop (suc at) line) else placed Plus (first ∷ drop (suc at) line))
        ≡ placed (λ (n : ℕ). if t then Minus n else if u then Star n else Plus n) (drop (at + (if t then 1 else if u then 1 else 0)) line)
    by_sign true u = rw add-one
    by_sign false true = rw add-one
    by_sign false false =
        let z : at ≡ at + 0 = omega arith in
        rw (← drop-cons line at 0 h) (ap (λ (k : ℕ). placed Plus (drop k line)) z)

    behind : position (drop at line) ≡ placed (signed first) (drop (at + signs first) line)
    unfolding position
    behind = rw (drop-cons line at 0 h) (by_sign (eqb first 45) (eqb first 42))

    module _ (k : ℕ) (s : k ≡ signs first) (r : Returned NumberAt) (q : number_in line r ≡ number (drop (at + k) line)) where
      pub position-not : r ≡ None → none ≡ position (drop at line)
      position-not e = rw (behind, ← s, ← q, e)

      pub position-is : (n : NumberAt) → r ≡ Some n → (p : Position) → p ≡ signed first n.value → placed_in line (Some (record { position = p; next = n.next })) ≡ position (drop at line)
      position-is n e p g = rw (behind, ← s, ← q, e, g)

module _ (line : List ℕ) (r : Returned PositionAt) (q : placed_in line r ≡ position (drop 0 line)) where
  pub range-not : r ≡ None → none ≡ range line
  unfolding range
  range-not e = rw (← q, e)

  module _ (p : PositionAt) (e : r ≡ Some p) where
    abbrev one : RangeAt
    one = record { start = p.position; end = p.position; next = p.next }

    begun : range line ≡ joined p.position (drop p.next line)
    unfolding range
    begun = rw (← q, e)

    -- nothing behind it
    pub range-end : length line ≤ p.next → range_in line (Some one) ≡ range line
    unfolding joined
    range-end h = rw (begun, drop_of_length-le line {i = p.next} h)

    -- no `_` behind it
    pub range-one : p.next < length line → (get_or line p.next 0 ≡ 95 → ⊥) → range_in line (Some one) ≡ range line
    unfolding joined
    range-one h k = rw (begun, drop-cons line p.next 0 h) (simp (ne_eqb _ _ k))

    -- a second position behind a `_`
    module _ (h : p.next < length line) (k : get_or line p.next 0 ≡ 95) (r₂ : Returned PositionAt) (q₂ : placed_in line r₂ ≡ position (drop (p.next + 1) line)) where
      second : position (drop (suc p.next) line) ≡ placed_in line r₂
      second = sym (q₂ ∙ rw add-one)

      pub range-half : r₂ ≡ None → none ≡ range line
      unfolding joined
      range-half e₂ = rw (begun, drop-cons line p.next 0 h) (simp (eq-eqb _ _ k) (rw (second, e₂)))

      pub range-two : (p₂ : PositionAt) → r₂ ≡ Some p₂ → range_in line (Some (record { start = p.position; end = p₂.position; next = p₂.next })) ≡ range line
      unfolding joined
      range-two p₂ e₂ = rw (begun, drop-cons line p.next 0 h) (simp (eq-eqb _ _ k) (rw (second, e₂)))
