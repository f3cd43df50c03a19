-- Laws of edit lines: what a turn finds and leaves.
-- Assumes nothing.
use mathlib.Core.Path.{◌≡◌, refl, ap, ◌∙◌}
use mathlib.Core.List.{List, []}
use Prim.Native.Nat.{ℕ, ◌+◌, ◌-◌, ◌^◌, ◌≤◌, ◌<◌}
use native.Mathlib.Omega.{arith}
use lib.ListN.{length, take, drop}
use borrow.Rule.Slice.PartMut.{put_mid}
use Rattle.rules.specs.Bytes.{given, refused, over}
use Rattle.rules.specs.Answer.{written_of, bytes_of}
use Rattle.rules.specs.Reference.{Reference}
use Rattle.text_answers.specs.Rooms.{line_room, Ample}
use Rattle.text_answers.specs.Stage.{Stage, editing, next_line, answered}
use Rattle.text_gather.specs.Steps.{longer, within, Gathers, Moves, Full, Steps}
use Rattle.text_gather.proofs.Puts.{put-bytes, put-none, over_none}
use Rattle.text_lines.proofs.Turns.{moves_none, full_all, moves-line, full-feed, moves-feed, row-moves, row-full}

pub ample_kept : (t q t' q' : List ℕ) → Ample t q → length t' ≡ length t → length q' ≡ length q → Ample t' q'
ample_kept t q t' q' h a b = record { for-transcript = a ∙ h.for-transcript; for-altered = b ∙ h.for-altered }

-- an edit line takes the bytes before the next line feed
module _ (r : Reference) (l l' input : List ℕ) (t : ℕ) (g : Gathers l l' input t) (out : List ℕ) where
  held-editing : editing r l' ≡ longer (editing r l) (take t input)
  unfolding longer
  held-editing = ap (editing r) g.holds

  pub edit-moves : Moves (editing r l) (editing r l') input t 0 out out
  edit-moves = moves-line (editing r l) g.short input t g.ends g.inside (editing r l') out held-editing

  pub edit-all : t ≡ length input → Full (editing r l) input t out
  edit-all e = full_all (editing r l) input t out (omega arith)

  -- the line ends there, and is answered
  module _ (more : t ≡ length input → ⊥) (out' : List ℕ)
      (holds : out' ≡ over (bytes_of (within (answered (editing r l')) (length out))) out) where
    pub edit-full : (n : ℕ) → refused n ≡ written_of (within (answered (editing r l')) (length out)) → Moves (editing r l) (editing r l') input t 0 out out' × Full (editing r l) input t out
    edit-full n is =
        let none = put-none (answered (editing r l')) (length out) n is in
        let same : out' ≡ out = holds ∙ over_none (bytes_of (within (answered (editing r l')) (length out))) out none.1 in
        (rw same edit-moves, full-feed (editing r l) g.short input t g.ends g.inside (editing r l') held-editing more out none.0)

    pub edit-answered : (n : ℕ) → given n ≡ written_of (within (answered (editing r l')) (length out)) → Moves (editing r l) (editing r []) input (t + 1) n out out'
    unfolding next_line
    edit-answered n is =
        let all = put-bytes (answered (editing r l')) (length out) n is in
        moves-feed (editing r l) g.short input t g.ends g.inside (editing r l') held-editing more (editing r []) n out out' refl all.0 all.1
        (holds ∙ ap (λ (s : List ℕ). over s out) all.2)

-- at the head of a turn: `taken` bytes are taken, `held` bytes of the line so far are held
pub record Going (x : Stage) (r : Reference) (input old line out : List ℕ) (held taken used : ℕ) (transcript altered : List ℕ) : Type 0 where
  pub moves : Moves x (editing r (take held line)) input taken used old out
  pub short : held ≤ line_room
  pub line-room : length line ≡ line_room
  pub ample : Ample transcript altered
  pub small : (length input < 2 ^ 64) × (length old < 2 ^ 64)

-- the buffers have the lengths that they came with
pub record Same (line₀ transcript₀ altered₀ out₀ line transcript altered out : List ℕ) : Type 0 where
  pub of-line : length line ≡ length line₀
  pub of-transcript : length transcript ≡ length transcript₀
  pub of-altered : length altered ≡ length altered₀
  pub of-out : length out ≡ length out₀

pub going : (r : Reference) (input line out : List ℕ) (held : ℕ) (transcript altered : List ℕ) → length line ≡ line_room → held ≤ line_room → Ample transcript altered → length input < 2 ^ 64 → length out < 2 ^ 64
    → Going (editing r (take held line)) r input out line out held 0 0 transcript altered
going r input line out held transcript altered room short ample a b =
    record { moves = moves_none (editing r (take held line)) input out; short = short; line-room = room; ample = ample; small = (a, b) }

module _ (x : Stage) (r : Reference) (input old line out : List ℕ) (held taken used : ℕ) (transcript altered : List ℕ) (g : Going x r input old line out held taken used transcript altered) where
  pub done : length input ≤ taken → Steps x (editing r (take held line)) input taken used old out
  done h = record { moves = g.moves; most = full_all x input taken old h }

  -- a turn from there
  module _ (held' t u : ℕ) (line' d : List ℕ)
      (m : Moves (editing r (take held line)) (editing r (take held' line')) (take (length input - taken) (drop taken input)) t u (take (length out - used) (drop used out)) d) where
    on : Moves x (editing r (take held' line')) input (taken + t) (used + u) old (put_mid used (length out - used) out d)
    on = row-moves x (editing r (take held line)) (editing r (take held' line')) input taken used t u old out d g.moves m

    pub taken-fits : taken + t < 2 ^ 64
    taken-fits = omega (arith, on.inside, g.small.0)

    pub used-fits : used + u < 2 ^ 64
    used-fits = omega (arith, on.fits, g.small.1)

    pub turned : (size : ℕ) → u ≡ size → held' ≤ line_room → length line' ≡ length line → (transcript' altered' : List ℕ) → length transcript' ≡ length transcript → length altered' ≡ length altered
        → Going x r input old line' (put_mid used (length out - used) out d) held' (taken + t) (used + size) transcript' altered'
    turned size e few same transcript' altered' a b = rw (← e) (record { moves = on; short = few; line-room = same ∙ g.line-room; ample = ample_kept transcript altered transcript' altered' g.ample a b; small = g.small })

    pub stopped : u ≡ 0 → Full (editing r (take held line)) (take (length input - taken) (drop taken input)) t (take (length out - used) (drop used out))
        → Steps x (editing r (take held' line')) input (taken + t) used old (put_mid used (length out - used) out d)
    stopped z f =
        let none : used + u ≡ used = omega arith in
        record { moves = rw none at on; most = row-full x (editing r (take held line)) (editing r (take held' line')) input taken used t u old out d g.moves f }
