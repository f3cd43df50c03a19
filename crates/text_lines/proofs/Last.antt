-- Laws of the input's end.
-- Assumes nothing.
use mathlib.Core.Path.{◌≡◌, refl, ap, subst, ◌∙◌}
use mathlib.Core.List.{List, [], ◌∷◌}
use Prim.Native.Nat.{ℕ, ◌≤◌, ◌<◌}
use native.Mathlib.Omega.{arith}
use lib.ListN.{length, take}
use lib.Seq.{length-take-le}
use Rattle.rules.specs.Bytes.{Result, given, refused, over}
use Rattle.rules.specs.Answer.{written_of, bytes_of}
use Rattle.rules.specs.Run.{line_feed}
use Rattle.rules.proofs.Fills.{refuses, gives}
use Rattle.text_answers.specs.declared.Phase.{Phase}
use Rattle.text_answers.specs.declared.Phase.TheVariants.{Opening, Editing, Ended}
use Rattle.text_answers.specs.Rooms.{line_room}
use Rattle.text_answers.specs.Stage.{Stage, answered}
use Rattle.text_answers.specs.Lines.{stage_by}
use Rattle.text_lines.specs.declared.State.{State}
use Rattle.text_gather.specs.Steps.{printed, printed_last, last, Steps}
use Rattle.text_lines.specs.Memory.{stage_of, Keeps}
use Rattle.text_gather.proofs.Pieces.{printed_feed}
use Rattle.text_gather.proofs.Puts.{within-fits, within-not, put-bytes}

-- an empty line isn't answered
empty_last : (p : Phase) (letters : List ℕ) → printed_last (stage_by p [] letters) ≡ []
unfolding printed_last
empty_last Opening letters = refl
empty_last (Editing k size) letters = refl
empty_last Ended letters = refl

-- another is
line_last : (p : Phase) (l letters : List ℕ) → 1 ≤ length l → printed_last (stage_by p l letters) ≡ answered (stage_by p l letters)
unfolding printed_last answered
line_last Opening [] letters h = absurd (omega arith)
line_last Opening (b ∷ l) letters h = refl
line_last (Editing k size) [] letters h = absurd (omega arith)
line_last (Editing k size) (b ∷ l) letters h = refl
line_last Ended l letters h = refl

nothing_printed : (x : Stage) (out : List ℕ) → over (printed x []) out ≡ out
unfolding printed over
nothing_printed x out = refl

module _ (s : State) (line letters protein out : List ℕ) (room : length line ≡ line_room) (h : Keeps s letters protein) where
  -- what `finish` answers and leaves
  abbrev Finished : Result ℕ → List ℕ → Type 0
  Finished r out' = (r ≡ written_of (last (stage_of s line letters) (length out))) × (out' ≡ over (bytes_of (last (stage_of s line letters) (length out))) out)

  pub none-held : s.held ≡ 0 → Finished (given 0) out
  unfolding last over
  none-held z =
      let none : printed_last (stage_of s line letters) ≡ [] = rw z (empty_last s.phase letters) in
      gives (last (stage_of s line letters) (length out)) [] 0 out out (rw none (within-fits [] (length out) (omega arith))) refl refl

  -- a line is held, and a line feed is put behind it
  module _ (some : s.held ≡ 0 → ⊥) (x : Stage) (t u : ℕ) (out' : List ℕ) (k : Steps (stage_of s line letters) x (line_feed ∷ []) t u out out') where
    is : printed_last (stage_of s line letters) ≡ answered (stage_of s line letters)
    is = line_last s.phase (take s.held line) letters (omega (arith, length-take-le s.held line (omega (arith, h.short))))

    pub no-room-left : t ≡ 0 → Finished (refused 15) out'
    unfolding last
    no-room-left z =
        let more : length out < length (answered (stage_of s line letters)) = subst (λ (l : List ℕ). length out < length l) (printed_feed (stage_of s line letters)) (rw z at (k.most (omega arith))) in
        let same : out' ≡ out = k.moves.prints ∙ rw z (nothing_printed (stage_of s line letters) out) in
        rw same (refuses (last (stage_of s line letters) (length out)) 15 out (rw is (within-not (answered (stage_of s line letters)) (length out) more)))

    pub line-finished : (t ≡ 0 → ⊥) → Finished (given u) out'
    unfolding last
    line-finished z =
        let all : t ≡ 1 = omega (arith, k.moves.inside, z) in
        let said : printed (stage_of s line letters) (take t (line_feed ∷ [])) ≡ answered (stage_of s line letters) = rw all (printed_feed (stage_of s line letters)) in
        let size : u ≡ length (answered (stage_of s line letters)) = k.moves.counts ∙ ap length said in
        gives (last (stage_of s line letters) (length out)) (answered (stage_of s line letters)) u out' out
        (rw is (within-fits (answered (stage_of s line letters)) (length out) (omega (arith, k.moves.fits))))
        size (k.moves.prints ∙ ap (λ (l : List ℕ). over l out) said)

-- what is put out at the end has room
pub last_within : (x : Stage) (room n : ℕ) → given n ≡ written_of (last x room) → n ≤ room
unfolding last
last_within x room n is = (put-bytes (printed_last x) room n is).1

pub last_fits : (x : Stage) (room : ℕ) → length (printed_last x) ≤ room → last x room ≡ given (printed_last x)
unfolding last
last_fits x room h = within-fits (printed_last x) room h
