-- Laws of a run that is counted, and of one that is written in one step.
-- Assumes nothing.
use Rattle.std.specs.Prelude.{Ok, Err}
use Rattle.std.specs.Prelude.{Result as Returned}
use Rattle.std.specs.Result.{result_unwrap_or}
use mathlib.Core.Path.{◌≡◌, refl, sym, ap, ◌∙◌}
use mathlib.Core.Bool.{Bool, true, false}
use mathlib.Core.List.{List, ◌++◌}
use Prim.Native.Nat.{ℕ, ◌+◌, ◌-◌, ◌^◌, ◌≤◌, ◌<◌}
use native.Mathlib.Omega.{arith}
use lib.Dec.{leb}
use lib.ListN.{length, take, drop, length-append, length-drop}
use lib.Seq.{length-take-le, take-length}
use borrow.Rule.Slice.PartMut.{put_mid}
use borrow.Author.Tests.{leb-true, leb-false}
use Rattle.rules.specs.declared.Refusal.{Refusal}
use Rattle.rules.specs.Refusals.{told}
use Rattle.rules.specs.Bytes.{given, refused, over}
use Rattle.rules.specs.Answer.{written_of, bytes_of}
use Rattle.rules.specs.Run.{run}
use Rattle.rules.proofs.Over.{lent_on_by, tail-is, length_over}
use Rattle.text_answers.specs.Rooms.{answer_room}
use Rattle.text_answers.specs.Stage.{Stage, start}
use Rattle.text_lines.specs.declared.State.{State}
use Rattle.text_gather.specs.Steps.{after, printed, printed_last, last, Steps}
use Rattle.text_lines.specs.Memory.{fresh, stage_of, Rooms, Keeps}
use Rattle.text_lines.proofs.Turns.{row-reached, row-prints}
use Rattle.text_lines.proofs.Whole.{printed_all, whole}
use Rattle.text_lines.proofs.Single.{printed_grows}
use Rattle.text_lines.proofs.Room.{last-size, takes_some}
use Rattle.text_lines.proofs.Last.{last_fits}
use Rattle.text_gather.proofs.Puts.{within-fits, within-not, put-bytes, put-none, over_none}
use Rattle.text_lines.proofs.Rooms.{fresh_keeps, rooms_kept}
use Rattle.text_run.specs.Runs.{run_within, Counted, Wrote}

-- the whole run, and its length
run_is : (input : List ℕ) → run input ≡ printed start input ++ printed_last (after start input)
unfolding printed_all
run_is input = whole input

-- before the first byte
pub counted : (s : State) (input line letters protein : List ℕ) (most : ℕ) → s ≡ fresh → Rooms line letters protein → most < 2 ^ 64 → Counted s input line letters protein 0 0 most
unfolding after printed
counted s input line letters protein most is h small =
    record { rooms = h; keeps = fresh_keeps s letters protein is; inside = omega arith; stage = rw is; counts = refl; fits = omega arith; small = small }

-- the whole input
all-taken : (x : Stage) (input : List ℕ) (n : ℕ) → n ≡ length input → printed x (take n input) ≡ printed x input
all-taken x input n e = rw (e, take-length input)

run-size : (input : List ℕ) → length (run input) ≡ length (printed start input) + length (printed_last (after start input))
run-size input = ap length (run_is input) ∙ length-append (printed start input) (printed_last (after start input))

-- no part of the run prints more than the whole
run_above : (input : List ℕ) (n : ℕ) → n ≤ length input → length (printed start (take n input)) ≤ length (run input)
run_above input n h =
    let all = ap length (all-taken start input (length input) refl) in
    omega (arith, printed_grows start input n (length input) h, run-size input)

pub unfit : (input : List ℕ) (most : ℕ) → most < length (run input) → refused 15 ≡ written_of (run_within input most)
unfolding run_within written_of
unfit input most h = rw (within-not (run input) most h)

fit : (input : List ℕ) (most n : ℕ) → n ≡ length (run input) → n ≤ most → given n ≡ written_of (run_within input most)
unfolding run_within written_of
fit input most n e h = rw (within-fits (run input) most (omega arith)) (ap given e)

-- at the head of a turn: the buffers have the lengths that they came with
pub record Turning (input piece line₀ letters₀ protein₀ line letters protein : List ℕ) : Type 0 where
  pub room : length piece ≡ answer_room
  pub of-line : length line ≡ length line₀
  pub of-letters : length letters ≡ length letters₀
  pub of-protein : length protein ≡ length protein₀
  pub small : length input < 2 ^ 64

module _ (s : State) (input line letters protein : List ℕ) (at total most : ℕ) (g : Counted s input line letters protein at total most) where
  -- a step from there
  module _ (s' : State) (line' letters' piece piece' : List ℕ) (t u : ℕ)
      (k : Steps (stage_of s line letters) (stage_of s' line' letters') (take (length input - at) (drop at input)) t u piece piece') where
    rest : take (length input - at) (drop at input) ≡ drop at input
    rest = tail-is at input

    pub goes_on : at + t ≤ length input
    goes_on = omega (arith, k.moves.inside, ap length rest, length-drop at input, g.inside)

    more : length (printed start (take (at + t) input)) ≡ total + u
    more =
        let said = ap length (row-prints start (stage_of s line letters) input at g.stage t) in
        let size : u ≡ length (printed (stage_of s line letters) (take t (drop at input))) = k.moves.counts ∙ rw rest in
        omega (arith, said, length-append (printed start (take at input)) (printed (stage_of s line letters) (take t (drop at input))), g.counts)

    pub takes : at < length input → answer_room ≤ length piece → 1 ≤ t
    takes q room =
        takes_some s line letters protein g.keeps (stage_of s' line' letters') (take (length input - at) (drop at input)) t u piece piece' k room (omega (arith, ap length rest, length-drop at input))

    pub too_many : most - total < u → most < length (run input)
    too_many q = omega (arith, more, run_above input (at + t) goes_on, g.fits)

    pub counted-on : (protein' : List ℕ) → Keeps s' letters' protein' → length line' ≡ length line → length letters' ≡ length letters → length protein' ≡ length protein → u ≤ most - total
        → Counted s' input line' letters' protein' (at + t) (total + u) most
    counted-on protein' h a b c q =
        record {
          rooms = rooms_kept line letters protein line' letters' protein' g.rooms a b c;
          keeps = h;
          inside = goes_on;
          stage = k.moves.reaches ∙ rw rest (row-reached start (stage_of s line letters) input at g.stage t);
          counts = sym more;
          fits = omega (arith, g.fits);
          small = g.small;
        }

  pub counted-all : length input ≤ at → Counted s input line letters protein (length input) total most
  counted-all q = let done : at ≡ length input = omega (arith, g.inside) in rw done at g

value_told : (r : Returned ℕ Refusal) (n : ℕ) → told r ≡ given n → result_unwrap_or r 0 ≡ n
value_told (Ok m) n e = cc
value_told (Err x) n e = cc

-- what `finish` answers where there is room for any answer
module _ (s : State) (line letters protein : List ℕ) (h : Keeps s letters protein) (r : Returned ℕ Refusal) (piece : List ℕ) (room : length piece ≡ answer_room)
    (k : told r ≡ written_of (last (stage_of s line letters) (length piece))) where
  finished : told r ≡ given (length (printed_last (stage_of s line letters)))
  unfolding written_of
  finished = k ∙ ap written_of (last_fits (stage_of s line letters) (length piece) (omega (arith, last-size s line letters protein h)))

  pub last-is : result_unwrap_or r 0 ≡ length (printed_last (stage_of s line letters))
  last-is = value_told r (length (printed_last (stage_of s line letters))) finished

-- behind the last byte
module _ (s : State) (input line letters protein : List ℕ) (total most : ℕ) (g : Counted s input line letters protein (length input) total most) (n : ℕ)
    (k : n ≡ length (printed_last (stage_of s line letters))) where
  stands : stage_of s line letters ≡ after start input
  stands = g.stage ∙ rw (take-length input)

  all : total + n ≡ length (run input)
  all = omega (arith, run-size input, ap (λ (x : Stage). length (printed_last x)) stands, g.counts, ap length (all-taken start input (length input) refl))

  pub ends_above : most - total < n → refused 15 ≡ written_of (run_within input most)
  ends_above h = unfit input most (omega (arith, all, g.fits))

  pub ends-within : n ≤ most - total → given (total + n) ≡ written_of (run_within input most)
  ends-within h = fit input most (total + n) all (omega (arith, g.fits))

-- one step where there is room for the whole run
module _ (s : State) (line letters : List ℕ) (is : s ≡ fresh) (input out out' : List ℕ) (room : length (run input) ≤ length out) (x : Stage) (t u : ℕ)
    (h : Steps (stage_of s line letters) x input t u out out') where
  k : Steps start x input t u out out'
  k = rw is at h

  takes_all : t ≡ length input
  takes_all = by (leb (length input) t) refl
    where
      by : (b : Bool) → leb (length input) t ≡ b → t ≡ length input
      by true h = omega (arith, leb-true (length input) t h, k.moves.inside)
      by false h =
          let less : t < length input = leb-false (length input) t h in
          absurd (omega (arith, k.most less, run_above input (t + 1) (omega arith)))

  pub wrote : Wrote x input u out out'
  wrote =
      let said : printed start (take t input) ≡ printed start input = all-taken start input t takes_all in
      record {
        reaches = k.moves.reaches ∙ rw (takes_all, take-length input);
        prints = k.moves.prints ∙ ap (λ (s : List ℕ). over s out) said;
        counts = k.moves.counts ∙ ap length said;
        room = room;
      }

-- and then the end
module _ (x : Stage) (input : List ℕ) (u : ℕ) (out out' : List ℕ) (w : Wrote x input u out out') where
  lines_fit : length (printed start input) ≤ length out
  lines_fit = omega (arith, run-size input, w.room)

  same-room : length out' ≡ length out
  same-room = ap length w.prints ∙ length_over (printed start input) out lines_fit

  pub used-fits : u ≤ length out'
  used-fits = omega (arith, w.counts, lines_fit, same-room)

  pub written-run : (rest : List ℕ) → rest ≡ over (bytes_of (last x (length (take (length out' - u) (drop u out'))))) (take (length out' - u) (drop u out'))
      → put_mid u (length out' - u) out' rest ≡ over (run input) out
  unfolding bytes_of
  written-run rest q =
      let left : length (take (length out' - u) (drop u out')) ≡ length out' - u = length-take-le (length out' - u) (drop u out') (rw length-drop (omega arith)) in
      let fits : length (printed_last x) ≤ length (take (length out' - u) (drop u out')) =
      omega (arith, run-size input, ap (λ (x : Stage). length (printed_last x)) w.reaches, w.counts, w.room, same-room) in
      let there : rest ≡ over (printed_last x) (take (length out' - u) (drop u out')) = q ∙ rw (last_fits x (length (take (length out' - u) (drop u out'))) fits) in
      lent_on_by (printed start input) (printed_last x) out out' rest u w.counts lines_fit w.prints there
      ∙ ap (λ (l : List ℕ). over l out) (rw w.reaches (sym (run_is input)))

-- what the count tells of the run
module _ (input out : List ℕ) (n : ℕ) where
  pub leaves_all : refused n ≡ written_of (run_within input (length out)) → out ≡ over (bytes_of (run_within input (length out))) out
  unfolding run_within
  leaves_all is = sym (over_none (bytes_of (run_within input (length out))) out (put-none (run input) (length out) n is).1)

  module _ (is : given n ≡ written_of (run_within input (length out))) where
    pub has_room : length (run input) ≤ length out
    unfolding run_within
    has_room = let all = put-bytes (run input) (length out) n is in omega (arith, all.0, all.1)

    pub holds-run : (out' : List ℕ) → out' ≡ over (run input) out → out' ≡ over (bytes_of (run_within input (length out))) out
    unfolding run_within
    holds-run out' q = q ∙ ap (λ (l : List ℕ). over l out) (sym (put-bytes (run input) (length out) n is).2)
