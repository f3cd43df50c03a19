-- Laws of a move: the bytes up to the next line feed, the line feed, and two moves in a row.
-- Assumes nothing.
use mathlib.Core.Path.{◌≡◌, refl, sym, ap, subst, ◌∙◌}
use mathlib.Core.List.{List, [], ◌∷◌, ◌++◌}
use Prim.Native.Nat.{ℕ, ◌+◌, ◌-◌, ◌≤◌, ◌<◌}
use native.Mathlib.Numerals.{add-one}
use native.Mathlib.Omega.{arith}
use lib.ListN.{length, take, drop, get_or, length-append, length-drop}
use lib.Seq.{take-suc, take-add, length-take-le}
use borrow.Rule.Slice.PartMut.{put_mid}
use Rattle.bytewise.specs.Find.{index_of}
use Rattle.rules.specs.Bytes.{over}
use Rattle.rules.specs.Run.{line_feed}
use Rattle.rules.proofs.Over.{length_over, lent_on_by, tail-is}
use Rattle.text_answers.specs.Stage.{Stage, next_line, answered}
use Rattle.text_gather.specs.Steps.{longer, after, printed, Moves, Full, Steps}
use Rattle.text_gather.proofs.Pieces.{after-append, printed-append, after_feed, printed_feed, after_plain, printed_plain, Short, Plain}
use Rattle.text_gather.proofs.Feeds.{plain_before, feed_at}

-- nothing taken
pub moves_none : (x : Stage) (input out : List ℕ) → Moves x x input 0 0 out out
unfolding after printed over
moves_none x input out = record { inside = omega arith; reaches = refl; prints = refl; counts = refl; fits = omega arith }

-- all taken
pub full_all : (x : Stage) (input : List ℕ) (t : ℕ) (out : List ℕ) → length input ≤ t → Full x input t out
full_all x input t out h = λ k. absurd (omega arith)

-- the bytes of a line, up to the next line feed
module _ (x : Stage) (short : Short x) (input : List ℕ) (t : ℕ) (ends : t ≡ index_of line_feed input) (inside : t ≤ length input) where
  plain : Plain (take t input)
  plain = rw ends (plain_before input)

  reached : after x (take t input) ≡ longer x (take t input)
  reached = after_plain x (take t input) short plain

  silent : printed x (take t input) ≡ []
  silent = printed_plain x (take t input) plain

  pub moves-line : (y : Stage) (out : List ℕ) → y ≡ longer x (take t input) → Moves x y input t 0 out out
  unfolding over
  moves-line y out is = record { inside = inside; reaches = is ∙ sym reached; prints = rw silent; counts = rw silent; fits = omega arith }

  -- the line feed behind them
  module _ (y : Stage) (is : y ≡ longer x (take t input)) (more : t ≡ length input → ⊥) where
    feed : get_or input t 0 ≡ line_feed
    feed = ap (λ (n : ℕ). get_or input n 0) ends ∙ feed_at input (omega (arith, more))

    one_more : take (t + 1) input ≡ take t input ++ (line_feed ∷ [])
    one_more = rw add-one (take-suc input t 0 (omega (arith, more)) ∙ rw feed)

    next : after x (take (t + 1) input) ≡ next_line y
    next = ap (after x) one_more ∙ after-append x (take t input) (line_feed ∷ []) ∙ after_feed (after x (take t input)) ∙ ap next_line (reached ∙ sym is)

    said : printed x (take (t + 1) input) ≡ answered y
    said =
        ap (printed x) one_more ∙ printed-append x (take t input) (line_feed ∷ [])
        ∙ rw silent (printed_feed (after x (take t input)) ∙ ap answered (reached ∙ sym is))

    pub full-feed : (out : List ℕ) → length out < length (answered y) → Full x input t out
    full-feed out h = λ k. rw said h

    pub moves-feed : (z : Stage) (n : ℕ) (out out' : List ℕ) → z ≡ next_line y → n ≡ length (answered y) → n ≤ length out → out' ≡ over (answered y) out → Moves x z input (t + 1) n out out'
    moves-feed z n out out' there e room q =
        record { inside = omega (arith, more); reaches = there ∙ sym next; prints = q ∙ rw said; counts = e ∙ rw said; fits = room }

-- two pieces in a row
module _ (x y : Stage) (input : List ℕ) (t : ℕ) (is : y ≡ after x (take t input)) (n : ℕ) where
  row : take (t + n) input ≡ take t input ++ take n (drop t input)
  row = take-add t n input

  pub row-reached : after y (take n (drop t input)) ≡ after x (take (t + n) input)
  row-reached = sym (ap (after x) row ∙ after-append x (take t input) (take n (drop t input)) ∙ ap (λ (z : Stage). after z (take n (drop t input))) (sym is))

  pub row-prints : printed x (take (t + n) input) ≡ printed x (take t input) ++ printed y (take n (drop t input))
  row-prints =
      ap (printed x) row ∙ printed-append x (take t input) (take n (drop t input))
      ∙ ap (λ (z : Stage). printed x (take t input) ++ printed z (take n (drop t input))) (sym is)

-- two moves in a row, the second over the rest of the input, into the rest of the output
module _ (x y z : Stage) (input : List ℕ) (t u t₂ u₂ : ℕ) (old out out₂ : List ℕ) (m : Moves x y input t u old out) where
  rest : take (length input - t) (drop t input) ≡ drop t input
  rest = tail-is t input

  first_fits : length (printed x (take t input)) ≤ length old
  first_fits = omega (arith, m.counts, m.fits)

  pub same-room : length out ≡ length old
  same-room = ap length m.prints ∙ length_over (printed x (take t input)) old first_fits

  left : length (take (length out - u) (drop u out)) ≡ length out - u
  left = length-take-le (length out - u) (drop u out) (rw length-drop (omega arith))

  both : length (printed x (take (t + t₂) input)) ≡ u + length (printed y (take t₂ (drop t input)))
  both = ap length (row-prints x y input t m.reaches t₂) ∙ length-append (printed x (take t input)) (printed y (take t₂ (drop t input))) ∙ omega (arith, m.counts)

  pub row-moves : Moves y z (take (length input - t) (drop t input)) t₂ u₂ (take (length out - u) (drop u out)) out₂ → Moves x z input (t + t₂) (u + u₂) old (put_mid u (length out - u) out out₂)
  row-moves s =
      let on : Moves y z (drop t input) t₂ u₂ (take (length out - u) (drop u out)) out₂ = subst (λ (i : List ℕ). Moves y z i t₂ u₂ (take (length out - u) (drop u out)) out₂) rest s in
      let first = printed x (take t input) in
      let second = printed y (take t₂ (drop t input)) in
      record {
        inside = omega (arith, m.inside, on.inside, length-drop t input);
        reaches = on.reaches ∙ row-reached x y input t m.reaches t₂;
        prints = lent_on_by first second old out out₂ u m.counts first_fits m.prints on.prints ∙ ap (λ (l : List ℕ). over l old) (sym (row-prints x y input t m.reaches t₂));
        counts = omega (arith, both, on.counts);
        fits = omega (arith, m.fits, on.fits, left, same-room);
      }

  pub row-full : Full y (take (length input - t) (drop t input)) t₂ (take (length out - u) (drop u out)) → Full x input (t + t₂) old
  row-full s k =
      let more : length (take (length out - u) (drop u out)) < length (printed y (take (t₂ + 1) (drop t input))) =
      subst (λ (i : List ℕ). t₂ < length i → length (take (length out - u) (drop u out)) < length (printed y (take (t₂ + 1) i))) rest s (omega (arith, length-drop t input)) in
      let next : t + t₂ + 1 ≡ t + (t₂ + 1) = omega arith in
      rw (next, row-prints x y input t m.reaches (t₂ + 1))
      (omega (arith, length-append (printed x (take t input)) (printed y (take (t₂ + 1) (drop t input))), m.counts, m.fits, left, same-room))

  pub row-steps : Steps y z (take (length input - t) (drop t input)) t₂ u₂ (take (length out - u) (drop u out)) out₂ → Steps x z input (t + t₂) (u + u₂) old (put_mid u (length out - u) out out₂)
  row-steps s = record { moves = row-moves s.moves; most = row-full s.most }
