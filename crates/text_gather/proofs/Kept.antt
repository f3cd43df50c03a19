-- Laws of the bytes of a line that are kept.
-- Assumes nothing.
use mathlib.Core.Path.{◌≡◌, refl, sym, ap, ◌∙◌}
use mathlib.Core.Bool.{Bool, true, false}
use mathlib.Core.List.{List, ◌++◌}
use Prim.Native.Nat.{ℕ, ◌≤◌, ◌<◌}
use native.Mathlib.Omega.{arith}
use lib.Dec.{leb}
use lib.ListN.{length, take, length-take}
use lib.Seq.{length-take-le, take_all, take-append-le}
use borrow.Author.Tests.{lt-leb, leb-true, leb-false}
use Rattle.rules.specs.Line.{fits_line}
use Rattle.text_answers.specs.Rooms.{line_room}
use Rattle.text_gather.specs.Steps.{kept}

-- the first n of a list with something behind it need only the list's first n
pub take_front : (n : ℕ) (l s : List ℕ) → take n (take n l ++ s) ≡ take n (l ++ s)
take_front n l s = by (leb n (length l)) refl
  where
    by : (t : Bool) → leb n (length l) ≡ t → take n (take n l ++ s) ≡ take n (l ++ s)
    by true h =
        let size : length (take n l) ≡ n = length-take-le n l (leb-true n (length l) h) in
        take-append-le n (take n l) s (omega arith) ∙ take_all n (take n l) (omega arith) ∙ sym (take-append-le n l s (leb-true n (length l) h))
    by false h = ap (λ (t : List ℕ). take n (t ++ s)) (take_all n l (omega (arith, leb-false n (length l) h)))

pub kept_front : (l s : List ℕ) → kept (kept l ++ s) ≡ kept (l ++ s)
unfolding kept
kept_front l s = take_front line_room l s

pub kept-all : (l : List ℕ) → length l ≤ line_room → kept l ≡ l
unfolding kept
kept-all l h = take_all line_room l h

pub kept_short : (l : List ℕ) → length (kept l) ≤ line_room
unfolding kept
kept_short l = rw length-take (omega arith)

-- a line that fits is kept whole, and one that doesn't is kept as one
pub kept_fits : (l : List ℕ) → fits_line l ≡ true → kept l ≡ l
unfolding fits_line
kept_fits l h = kept-all l (omega (arith, leb-true (length l) 20480 h))

pub kept_unfit : (l : List ℕ) → fits_line l ≡ false → fits_line (kept l) ≡ false
unfolding fits_line kept
kept_unfit l h =
    let long : 20480 < length l = leb-false (length l) 20480 h in
    lt-leb (length (take line_room l)) 20480 (omega (arith, length-take-le line_room l (omega arith)))
