-- Laws of a line gathered in a buffer.
-- Assumes nothing.
use mathlib.Core.Path.{◌≡◌, sym, ap, ◌∙◌}
use mathlib.Core.List.{List, ◌++◌, append_assoc}
use Prim.Native.Nat.{ℕ, ◌+◌, ◌-◌, ◌≤◌, min}
use native.Mathlib.Omega.{arith}
use lib.ListN.{length, take, drop}
use lib.Seq.{length-take-le, take-length, take_at, take-append-add}
use borrow.Rule.Slice.PartMut.{put_mid}
use Rattle.std.proofs.lemmas.List.{take_min}
use Rattle.bytewise.specs.Find.{slice, index_of}
use Rattle.rules.specs.Run.{line_feed}
use Rattle.text_answers.specs.Rooms.{line_room}
use Rattle.text_gather.specs.Steps.{kept, Gathers}
use Rattle.text_gather.proofs.Feeds.{found}

-- the first m of a list, or all where it has fewer
take_least : (m n : ℕ) (s : List ℕ) → n ≡ min (length s) m → take n s ≡ take m s
take_least m n s e = let few : n ≡ min m (length s) = omega arith in rw few (take_min m s)

-- the first n bytes of a part, copied behind the `held` bytes of the line so far
module _ (line part : List ℕ) (held n : ℕ) (h : held ≤ length line) (e : n ≡ min (length part) (length line - held)) where
  front : length (take held line) ≡ held
  front = length-take-le held line h

  few : length (take n part) ≡ n
  few = length-take-le n part (omega arith)

  front_of : (r : ℕ) → r ≡ length (take n part) → (s u : List ℕ) → take r (take n part ++ s ++ u) ≡ take n part
  front_of r k s u = rw (append_assoc (take n part) s u) (take_at (take n part) (s ++ u) r (sym k))

  pub gathered : (r : ℕ) (d : List ℕ) → r ≡ length (take n part) → d ≡ take (length (take n part)) (take n part) ++ drop (length (take n part)) (take (length line - held) (drop held line))
      → (take (held + r) (put_mid held (length line - held) line d) ≡ take (length line) (take held line ++ part)) × (held + r ≤ length line)
  gathered r d k q =
      let all : length line ≡ length (take held line) + (length line - held) = omega (arith, front) in
      let place : held + r ≡ length (take held line) + r = omega (arith, front) in
      let rest : d ≡ take n part ++ drop (length (take n part)) (take (length line - held) (drop held line)) = q ∙ rw (take-length (take n part)) in (
        rw (place, take-append-add (take held line) (d ++ drop (length line - held) (drop held line)) r, rest)
            (ap (λ (t : List ℕ). take held line ++ t) (front_of r k _ _ ∙ take_least (length line - held) n part e)
            ∙ sym (ap (λ (m : ℕ). take m (take held line ++ part)) all ∙ take-append-add (take held line) part (length line - held))),
        omega (arith, few),
      )

-- the bytes before the next line feed are held
pub gathers : (line line' input : List ℕ) (held n end : ℕ) → length line ≡ line_room → held ≤ line_room → end ≡ 0 + index_of line_feed (slice 0 (length input) input) → end ≤ length input
    → take n line' ≡ take (length line) (take held line ++ take end input) → Gathers (take held line) (take n line') input end
unfolding kept
gathers line line' input held n end room short e h is = record { short = omega (arith, length-take-le held line (omega arith)); ends = found input end e; inside = h; holds = is ∙ rw room }
