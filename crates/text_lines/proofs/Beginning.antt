-- Laws of a step's beginning, up to the end of the first line, and of how it goes on from there.
-- Assumes nothing.
use Rattle.std.specs.Prelude.{if◌then◌else◌, None, Some}
use mathlib.Core.Path.{◌≡◌, refl, sym, ap, subst, ◌∙◌}
use mathlib.Core.List.{List, [], ◌∷◌, ◌++◌, append-nil}
use mathlib.Core.Option.{Option, none, some}
use Prim.Native.Nat.{ℕ, zero, suc, ◌+◌, ◌-◌, ◌≤◌}
use native.Mathlib.Omega.{arith}
use lib.ListN.{length, take, drop, length-append, length-drop}
use lib.Seq.{length-take-le}
use borrow.Rule.Slice.PartMut.{put_mid}
use borrow.Author.Tests.{lt-ltb, le-ltb}
use Rattle.bytewise.specs.Find.{index_after, index_of}
use Rattle.rules.specs.Opened.{opened}
use Rattle.rules.specs.Bytes.{bytes, given, refused, over}
use Rattle.rules.specs.Answer.{written_of, bytes_of}
use Rattle.rules.specs.Reference.{Reference, reference_protein}
use Rattle.rules.specs.Refusal.{reference_refusal}
use Rattle.rules.specs.Line.{text_limits, reference_line, fits_line}
use Rattle.rules.specs.Run.{refused_line, answers_from, answers_of, answers, line_feed, unlines}
use Rattle.rules.specs.Views.{bare}
use Rattle.rules.proofs.Over.{fits_over, read_back}
use Rattle.reference.specs.declared.Known.{Known}
use Rattle.text_answers.specs.declared.Phase.{Phase}
use Rattle.text_answers.specs.declared.Phase.TheVariants.{Opening, Editing, Ended}
use Rattle.text_answers.specs.declared.first.Opened.{Opened}
use Rattle.text_answers.specs.Rooms.{line_room}
use Rattle.text_answers.specs.Stage.{Stage, opening, editing, ended, accepted, behind_first, next_line, answered}
use Rattle.text_answers.specs.Lines.{stage_by, KnownIn, Opens}
use Rattle.text_lines.specs.declared.State.{State}
use Rattle.text_gather.specs.Steps.{kept, longer, after, printed, within, Gathers, Moves, Steps}
use Rattle.text_lines.specs.Memory.{stage_of, held_behind, Keeps, first_end, Fills, Put, Begins}
use Rattle.text_gather.proofs.Pieces.{after_ended, printed_ended}
use Rattle.text_gather.proofs.Puts.{put-bytes, put-none, over_none}
use Rattle.text_lines.proofs.Turns.{moves_none, full_all, moves-line, full-feed, moves-feed, row-reached, row-prints, row-steps}

-- nothing is kept behind the first line, nor of an empty one
editing_ends_in : (r : Reference) (l s : List ℕ) → first_end (editing r l) s ≡ ended
unfolding first_end
editing_ends_in r l s = refl

ended_ends_in : (s : List ℕ) → first_end ended s ≡ ended
unfolding first_end
ended_ends_in s = refl

empty_ends : first_end (opening []) (line_feed ∷ []) ≡ ended
unfolding first_end opened kept next_line accepted behind_first index_of index_after
empty_ends = refl

-- a line's answer is never empty
line_some : (l : List ℕ) → 1 ≤ length (unlines (l ∷ []))
unfolding unlines
line_some l = omega (arith, length-append l (line_feed ∷ []))

answers_some : (o : Option Reference) → 1 ≤ length (unlines (answers_of o []))
unfolding answers_of answers_from
answers_some none = line_some (refused_line 30)
answers_some (some r) = by (reference_refusal text_limits.longest r)
  where
    by : (n : ℕ) → 1 ≤ length (unlines (answers_from n r []))
    by zero = line_some (bytes "reference " ++ reference_protein r)
    by (suc n) = line_some (refused_line (suc n))

answered_some : (l : List ℕ) → 1 ≤ length (answered (opening l))
unfolding answered answers
answered_some l = answers_some (if fits_line l then reference_line l else none)

-- the first line's answer, put out
module _ (l : List ℕ) (o : Opened) (letters letters' protein protein' text text' : List ℕ)
    (h : Opens (answered (opening l)) (next_line (opening l)) o.phase o.size letters letters' protein protein' text text') where
  pub first_fits : o.size ≤ length text'
  first_fits = fits_over (answered (opening l)) text text' o.size h.counts h.prints

  first_read : take o.size text' ≡ answered (opening l)
  first_read = read_back (answered (opening l)) text text' o.size h.counts h.prints

  module _ (out out' : List ℕ) (holds : out' ≡ over (bytes_of (within (take o.size text') (length out))) out) where
    pub put_first : (n : ℕ) → given n ≡ written_of (within (take o.size text') (length out)) → Put (opening l) (Some o) letters' protein' out out'
    put_first n is =
        let all = put-bytes (take o.size text') (length out) n is in
        record { counts = h.counts; prints = holds ∙ ap (λ (s : List ℕ). over s out) (all.2 ∙ first_read); reaches = h.reaches; known = h.known }

    pub put-nothing : (n : ℕ) → refused n ≡ written_of (within (take o.size text') (length out)) → Put (opening l) None letters' protein' out out'
    put-nothing n is =
        let no = put-none (take o.size text') (length out) n is in
        (omega (arith, no.0, ap length first_read), holds ∙ over_none (bytes_of (within (take o.size text') (length out))) out no.1)

  -- its letters and R
  pub fills_first : Fills (next_line (opening l)) letters letters' protein protein'
  fills_first = record { with-letters = h.keeps-letters; with-protein = h.keeps-protein }

fills_ended : (x : Stage) (letters protein : List ℕ) → x ≡ ended → Fills x letters letters protein protein
unfolding over
fills_ended x letters protein is = rw is (record { with-letters = refl; with-protein = refl })

-- an empty first line is refused, so that nothing is kept of it
pub fills_empty : (s : State) (line letters protein : List ℕ) → s.held ≡ 0 → Fills (first_end (stage_of s line letters) (line_feed ∷ [])) letters letters protein protein
fills_empty s line letters protein z = fills_ended (first_end (stage_of s line letters) (line_feed ∷ [])) letters protein (rw z (by s.phase))
  where
    by : (p : Phase) → first_end (stage_by p [] letters) (line_feed ∷ []) ≡ ended
    by Opening = empty_ends
    by (Editing k size) = editing_ends_in (bare (take size letters) k.cds) [] (line_feed ∷ [])
    by Ended = ended_ends_in (line_feed ∷ [])

-- behind the first line's end
stage_behind : (p : Phase) (n : ℕ) (line letters : List ℕ) → stage_by p (take (held_behind p n) line) letters ≡ stage_by p [] letters
stage_behind Opening n line letters = refl
stage_behind (Editing k size) n line letters = refl
stage_behind Ended n line letters = refl

held_less : (p : Phase) (n : ℕ) → held_behind p n ≤ n
held_less Opening n = omega arith
held_less (Editing k size) n = omega arith
held_less Ended n = omega arith

-- the run isn't in its first line any more
behind_opening : (o : Option Reference) (l : List ℕ) → behind_first o ≡ opening l → ⊥
unfolding behind_first
behind_opening none l h = let z : ◌≡◌ {A = ℕ} 0 1 = cc in omega arith
behind_opening (some r) l h = let z : ◌≡◌ {A = ℕ} 0 1 = cc in omega arith

not_again : (l m : List ℕ) → next_line (opening l) ≡ opening m → ⊥
unfolding next_line
not_again l m h = behind_opening (accepted (if fits_line l then reference_line l else none)) m h

-- n bytes of the first line are held, with those that stand before the next line feed, or before the input's end
module _ (n : ℕ) (l line' input : List ℕ) (t : ℕ) (g : Gathers l (take n line') input t) where
  held-opening : opening (take n line') ≡ longer (opening l) (take t input)
  unfolding longer
  held-opening = ap opening g.holds

  begun-moves : (out : List ℕ) → Moves (opening l) (opening (take n line')) input t 0 out out
  begun-moves out = moves-line (opening l) g.short input t g.ends g.inside (opening (take n line')) out held-opening

  pub begun_all : (letters' out : List ℕ) → length line' ≡ line_room → t ≡ length input → Begins (opening l) (record { phase = Opening; held = n }) line' letters' input t 0 out out
  begun_all letters' out room e = record { room = room; moves = begun-moves out; stays = λ z. full_all (opening l) input t out (omega arith) }

  pub begun-keeps : (letters' protein' : List ℕ) → n ≤ line_room → Keeps (record { phase = Opening; held = n }) letters' protein'
  begun-keeps letters' protein' few = record { short = few; known = tt }

  pub fills-none : (letters protein : List ℕ) → t ≡ length input → Fills (first_end (opening l) input) letters letters protein protein
  unfolding first_end
  fills-none letters protein e = fills_ended (first_end (opening l) input) letters protein (rw (le-ltb (index_of line_feed input) (length input) (omega (arith, g.ends))))

  pub fills-line : (t ≡ length input → ⊥) → (letters letters' protein protein' : List ℕ) → Fills (next_line (opening (take n line'))) letters letters' protein protein'
      → Fills (first_end (opening l) input) letters letters' protein protein'
  unfolding first_end
  fills-line more letters letters' protein protein' h =
      let there : first_end (opening l) input ≡ next_line (opening (take n line')) =
      rw (lt-ltb (index_of line_feed input) (length input) (omega (arith, g.ends, g.inside, more)), ← g.ends, ← g.holds) in
      rw there h

  -- the line ends there
  module _ (more : t ≡ length input → ⊥) (letters' protein' out out' : List ℕ) where
    pub begun-full : Put (opening (take n line')) None letters' protein' out out' → length line' ≡ line_room → Begins (opening l) (record { phase = Opening; held = n }) line' letters' input t 0 out out'
    begun-full full room =
        rw full.1
        (record {
          room = room;
          moves = begun-moves out;
          stays = λ e. full-feed (opening l) g.short input t g.ends g.inside (opening (take n line')) held-opening more out full.0;
        })

    module _ (o : Opened) (q : Put (opening (take n line')) (Some o) letters' protein' out out') (m : ℕ) (behind : m ≡ held_behind o.phase n) where
      there : stage_by o.phase (take m line') letters' ≡ next_line (opening (take n line'))
      there = rw behind (stage_behind o.phase n line' letters' ∙ q.reaches)

      -- what is put out has room, since a buffer keeps its length
      pub put_fits : length out' ≡ length out → o.size ≤ length out
      put_fits same = omega (arith, fits_over (answered (opening (take n line'))) out out' o.size q.counts q.prints)

      pub opened-begins : length line' ≡ line_room → length out' ≡ length out → Begins (opening l) (record { phase = o.phase; held = m }) line' letters' input (t + 1) o.size out out'
      opened-begins has same =
          record {
            room = has;
            moves =
                moves-feed (opening l) g.short input t g.ends g.inside (opening (take n line')) held-opening more
                (stage_by o.phase (take m line') letters') o.size out out' there q.counts (put_fits same) q.prints;
            stays = λ e. absurd (not_again (take n line') [] (sym q.reaches ∙ ap (λ (p : Phase). stage_by p [] letters') e));
          }

      pub opened-keeps : n ≤ line_room → Keeps (record { phase = o.phase; held = m }) letters' protein'
      opened-keeps few = record { short = omega (arith, held_less o.phase n); known = q.known }

-- by the phase that a step finds
module _ (s : State) (line letters input out : List ℕ) where
  pub begins-first : s.phase ≡ Opening → (s' : State) (line' letters' : List ℕ) (t u : ℕ) (out' : List ℕ) → Begins (opening (take s.held line)) s' line' letters' input t u out out'
      → Begins (stage_of s line letters) s' line' letters' input t u out out'
  begins-first is s' line' letters' t u out' h = subst (λ (p : Phase). Begins (stage_by p (take s.held line) letters) s' line' letters' input t u out out') (sym is) h

  pub fills-opening : s.phase ≡ Opening → (letters' protein protein' : List ℕ) → Fills (first_end (opening (take s.held line)) input) letters letters' protein protein'
      → Fills (first_end (stage_of s line letters) input) letters letters' protein protein'
  fills-opening is letters' protein protein' h = subst (λ (p : Phase). Fills (first_end (stage_by p (take s.held line) letters) input) letters letters' protein protein') (sym is) h

  pub fills-behind : (protein : List ℕ) → (s.phase ≡ Opening → ⊥) → Fills (first_end (stage_of s line letters) input) letters letters protein protein
  fills-behind protein not = fills_ended (first_end (stage_of s line letters) input) letters protein (by s.phase not)
    where
      by : (p : Phase) → (p ≡ Opening → ⊥) → first_end (stage_by p (take s.held line) letters) input ≡ ended
      by Opening h = absurd (h refl)
      by (Editing k size) h = editing_ends_in (bare (take size letters) k.cds) (take s.held line) input
      by Ended h = ended_ends_in input

  pub begins-none : length line ≡ line_room → (s.phase ≡ Opening → ⊥) → Begins (stage_of s line letters) s line letters input 0 0 out out
  begins-none room not = record { room = room; moves = moves_none (stage_of s line letters) input out; stays = λ e. absurd (not e) }

pub editing_not : {p : Phase} {k : Known} {size : ℕ} → p ≡ Editing k size → p ≡ Opening → ⊥
editing_not h e = let z : ◌≡◌ {A = ℕ} 0 1 = cc in omega arith

pub ended_not : {p : Phase} → p ≡ Ended → p ≡ Opening → ⊥
ended_not h e = let z : ◌≡◌ {A = ℕ} 0 1 = cc in omega arith

-- a run that has ended takes the rest
ended_on : (x : Stage) (input : List ℕ) (t u : ℕ) (old out : List ℕ) → Moves x ended input t u old out → Moves x ended input (length input) u old out
ended_on x input t u old out m =
    let n = length input - t in
    let all : t + n ≡ length input = omega (arith, m.inside) in
    let silent : printed x (take (length input) input) ≡ printed x (take t input) =
    ap (λ (n : ℕ). printed x (take n input)) (sym all) ∙ row-prints x ended input t m.reaches n ∙ rw (printed_ended (take n (drop t input))) (append-nil (printed x (take t input))) in
    record {
      inside = omega arith;
      reaches = sym (after_ended (take n (drop t input))) ∙ row-reached x ended input t m.reaches n ∙ ap (λ (n : ℕ). after x (take n input)) all;
      prints = m.prints ∙ ap (λ (s : List ℕ). over s old) (sym silent);
      counts = m.counts ∙ ap length (sym silent);
      fits = m.fits;
    }

-- what a step over the rest takes and puts out stays within
pub rest_fits : (x z : Stage) (input : List ℕ) (t u t₂ u₂ : ℕ) (out out₂ : List ℕ) → Steps x z (take (length input - t) (drop t input)) t₂ u₂ (take (length out - u) (drop u out)) out₂
    → (t₂ ≤ length input - t) × (u₂ ≤ length out - u)
rest_fits x z input t u t₂ u₂ out out₂ s = (
  omega (arith, s.moves.inside, length-take-le (length input - t) (drop t input) (rw length-drop (omega arith))),
  omega (arith, s.moves.fits, length-take-le (length out - u) (drop u out) (rw length-drop (omega arith))),
)

-- by the phase that the beginning reached
pub editing_known : (s : State) (letters : List ℕ) (k : Known) (size : ℕ) → s.phase ≡ Editing k size → (protein : List ℕ) → Keeps s letters protein → KnownIn (Editing k size) letters protein
editing_known s letters k size is protein h = subst (λ (p : Phase). KnownIn p letters protein) is h.known

pub still_keeps : (s : State) (letters : List ℕ) (k : Known) (size : ℕ) → s.phase ≡ Editing k size → (protein : List ℕ) (held : ℕ) → Keeps s letters protein → held ≤ line_room
    → Keeps (record { phase = Editing k size; held = held }) letters protein
still_keeps s letters k size is protein held h few = record { short = few; known = editing_known s letters k size is protein h }

module _ (s : State) (line letters input : List ℕ) (t u : ℕ) (out : List ℕ) where
  pub on-opening : s.phase ≡ Opening → (x : Stage) (old : List ℕ) → Begins x s line letters input t u old out → Steps x (stage_of s line letters) input t u old out
  on-opening is x old h = record { moves = h.moves; most = h.stays is }

  pub on-ended : s.phase ≡ Ended → (x : Stage) (old : List ℕ) → Begins x s line letters input t u old out → Steps x (stage_of s line letters) input (length input) u old out
  on-ended is x old h =
      let here : stage_of s line letters ≡ ended = ap (λ (p : Phase). stage_by p (take s.held line) letters) is in
      record { moves = rw here (ended_on x input t u old out (rw here at h.moves)); most = full_all x input (length input) old (omega arith) }

  module _ (k : Known) (size : ℕ) (is : s.phase ≡ Editing k size) where
    -- the rest of the input, into the rest of the output
    module _ (held t₂ u₂ : ℕ) (line' out₂ : List ℕ)
        (m : Steps (editing (bare (take size letters) k.cds) (take s.held line)) (editing (bare (take size letters) k.cds) (take held line'))
        (take (length input - t) (drop t input)) t₂ u₂ (take (length out - u) (drop u out)) out₂) where
      pub on-editing : (x : Stage) (old : List ℕ) → Begins x s line letters input t u old out
          → Steps x (editing (bare (take size letters) k.cds) (take held line')) input (t + t₂) (u + u₂) old (put_mid u (length out - u) out out₂)
      on-editing x old h =
          let here : stage_of s line letters ≡ editing (bare (take size letters) k.cds) (take s.held line) = ap (λ (p : Phase). stage_by p (take s.held line) letters) is in
          row-steps x (editing (bare (take size letters) k.cds) (take s.held line)) (editing (bare (take size letters) k.cds) (take held line')) input t u t₂ u₂ old out out₂
          (rw here at h.moves) m
