-- Laws of the search for the next line feed.
-- Assumes nothing.
use mathlib.Core.Path.{◌≡◌, refl, ap, ◌∙◌}
use mathlib.Core.Bool.{Bool, true, false}
use mathlib.Core.List.{List, [], ◌∷◌}
use Prim.Native.Nat.{ℕ, ◌+◌, ◌-◌, ◌<◌}
use native.Mathlib.Omega.{arith}
use lib.Dec.{eqb}
use lib.ListN.{length, take, get_or}
use lib.Seq.{take-length}
use borrow.Author.Tests.{eqb-true, eqb-false}
use Rattle.bytewise.specs.Find.{slice, index_after, index_of}
use Rattle.rules.specs.Run.{line_feed}
use Rattle.text_gather.proofs.Pieces.{Plain, none, more}

-- no line feed stands before the first
pub plain_before : (s : List ℕ) → Plain (take (index_of line_feed s) s)
unfolding index_of index_after
plain_before [] = none
plain_before (b ∷ s) = by (eqb b line_feed) refl (plain_before s)
  where
    by : (e : Bool) → eqb b line_feed ≡ e → Plain (take (index_of line_feed s) s) → Plain (take (index_after e (index_of line_feed s)) (b ∷ s))
    by true q h = none
    by false q h = more (eqb-false b line_feed q) h

pub feed_at : (s : List ℕ) → index_of line_feed s < length s → get_or s (index_of line_feed s) 0 ≡ line_feed
unfolding index_of index_after
feed_at [] h = absurd (omega arith)
feed_at (b ∷ s) h = by (eqb b line_feed) refl (feed_at s) h
  where
    by : (e : Bool) → eqb b line_feed ≡ e → (index_of line_feed s < length s → get_or s (index_of line_feed s) 0 ≡ line_feed)
        → index_after e (index_of line_feed s) < length (b ∷ s) → get_or (b ∷ s) (index_after e (index_of line_feed s)) 0 ≡ line_feed
    by true q f h = eqb-true b line_feed q
    by false q f h = f (omega arith)

-- searched from the start to the end
pub found : (s : List ℕ) (n : ℕ) → n ≡ 0 + index_of line_feed (slice 0 (length s) s) → n ≡ index_of line_feed s
found s n e =
    let number : n ≡ index_of line_feed (slice 0 (length s) s) = omega (arith, e) in
    let whole : slice 0 (length s) s ≡ s = ap (λ (k : ℕ). take k s) all ∙ take-length s in
    number ∙ ap (index_of line_feed) whole
  where
    all : length s - 0 ≡ length s
    all = omega arith
