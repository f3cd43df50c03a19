-- The run of a whole input, in pieces: what the steps print, and at last what the end does, is what document 01's run prints.
-- Assumes nothing.
use Rattle.std.specs.Prelude.{if◌then◌else◌}
use mathlib.Core.Path.{◌≡◌, refl, sym, ap, ◌∙◌}
use mathlib.Core.Bool.{Bool, true, false}
use mathlib.Core.List.{List, [], ◌∷◌, ◌++◌, append_assoc, append-nil, map}
use mathlib.Core.Option.{Option, none, some}
use Prim.Native.Nat.{ℕ, zero, suc}
use lib.Dec.{eqb}
use borrow.Author.Tests.{eqb-true}
use Rattle.rules.specs.Bytes.{bytes}
use Rattle.rules.specs.Reference.{Reference, reference_protein}
use Rattle.rules.specs.Refusal.{reference_refusal}
use Rattle.rules.specs.Line.{text_limits, reference_line, fits_line}
use Rattle.rules.specs.Run.{refused_line, edit_line_answer, answers_from, answers_of, answers, line_feed, lines_from, lines, unlines, run}
use Rattle.text_answers.specs.Stage.{Stage, opening, editing, ended, start, accepted_by, accepted, behind_first, next_line, answered}
use Rattle.text_gather.specs.Steps.{kept, longer, after, printed, printed_last}
use Rattle.text_gather.proofs.Kept.{kept_front, kept_fits, kept_unfit}
use Rattle.text_gather.proofs.Pieces.{after-append, printed-append, after_ended, printed_ended}

-- what is printed from a stage on, to the end of the input
unfoldable pub printed_all : Stage → List ℕ → List ℕ
printed_all x s = printed x s ++ printed_last (after x s)

-- the bytes kept of a line tell its answer
pub edit_kept : (r : Reference) (l : List ℕ) → edit_line_answer r (kept l) ≡ edit_line_answer r l
unfolding edit_line_answer
edit_kept r l = by (fits_line l) refl
  where
    by : (t : Bool) → fits_line l ≡ t → edit_line_answer r (kept l) ≡ edit_line_answer r l
    by true h = ap (edit_line_answer r) (kept_fits l h)
    by false h = rw (kept_unfit l h, h)

first_kept : (l : List ℕ) → (if fits_line (kept l) then reference_line (kept l) else none) ≡ (if fits_line l then reference_line l else none)
first_kept l = by (fits_line l) refl
  where
    by : (t : Bool) → fits_line l ≡ t → (if fits_line (kept l) then reference_line (kept l) else none) ≡ (if fits_line l then reference_line l else none)
    by true h = ap (λ (l : List ℕ). if fits_line l then reference_line l else none) (kept_fits l h)
    by false h = rw (kept_unfit l h, h)

-- a run that has ended prints nothing more
ended_all : (s : List ℕ) → printed_all ended s ≡ []
unfolding printed_all printed_last
ended_all s = rw (printed_ended s, after_ended s)

-- a line feed, and another byte
feed_all : (x : Stage) (s : List ℕ) → printed_all x (line_feed ∷ s) ≡ answered x ++ printed_all (next_line x) s
unfolding printed_all printed after
feed_all x s = append_assoc (answered x) (printed (next_line x) s) (printed_last (after (next_line x) s))

byte-all : (x : Stage) (b : ℕ) (s : List ℕ) → eqb b line_feed ≡ false → printed_all x (b ∷ s) ≡ printed_all (longer x (b ∷ [])) s
unfolding printed_all printed after
byte-all x b s q = by (eqb b line_feed) q
  where
    by : (e : Bool) → e ≡ false
        → (elim e as (λ z. List ℕ) [ true ↦ answered x ++ printed (next_line x) s | false ↦ printed (longer x (b ∷ [])) s ])
        ++ printed_last (elim e as (λ z. Stage) [ true ↦ after (next_line x) s | false ↦ after (longer x (b ∷ [])) s ])
        ≡ printed (longer x (b ∷ [])) s ++ printed_last (after (longer x (b ∷ [])) s)
    by true h = cc
    by false h = refl

-- the lines of an input, from a line that is begun
lines_feed : (l s : List ℕ) → lines_from l (line_feed ∷ s) ≡ l ∷ lines_from [] s
unfolding lines_from
lines_feed [] s = refl
lines_feed (x ∷ l) s = refl

lines-byte : (l : List ℕ) (b : ℕ) (s : List ℕ) → eqb b line_feed ≡ false → lines_from l (b ∷ s) ≡ lines_from (l ++ (b ∷ [])) s
unfolding lines_from
lines-byte l b s q = by (eqb b line_feed) q
  where
    by : (e : Bool) → e ≡ false → ◌≡◌ {A = List (List ℕ)} (elim e as (λ z. List (List ℕ)) [ true ↦ l ∷ lines_from [] s | false ↦ lines_from (l ++ (b ∷ [])) s ]) (lines_from (l ++ (b ∷ [])) s)
    by true h = cc
    by false h = refl

-- one line's answer, and the others behind it
unlines_more : (l : List ℕ) (ls : List (List ℕ)) → unlines (l ∷ []) ++ unlines ls ≡ unlines (l ∷ ls)
unfolding unlines
unlines_more l ls = append_assoc l (line_feed ∷ []) (unlines ls)

-- from an edit line that is begun
edits_end : (r : Reference) (l : List ℕ) → printed_all (editing r (kept l)) [] ≡ unlines (map (edit_line_answer r) (lines_from l []))
unfolding printed_all printed after printed_last kept lines_from unlines answered
edits_end r [] = refl
edits_end r (x ∷ l) = ap (λ (a : List ℕ). a ++ (line_feed ∷ [])) (edit_kept r (x ∷ l))

edits_all : (r : Reference) (l s : List ℕ) → printed_all (editing r (kept l)) s ≡ unlines (map (edit_line_answer r) (lines_from l s))
unfolding next_line answered longer kept
edits_all r l [] = edits_end r l
edits_all r l (b ∷ s) = by (eqb b line_feed) refl (edits_all r [] s) (edits_all r (l ++ (b ∷ [])) s)
  where
    by : (e : Bool) → eqb b line_feed ≡ e → printed_all (editing r (kept [])) s ≡ unlines (map (edit_line_answer r) (lines_from [] s))
        → printed_all (editing r (kept (l ++ (b ∷ [])))) s ≡ unlines (map (edit_line_answer r) (lines_from (l ++ (b ∷ [])) s))
        → printed_all (editing r (kept l)) (b ∷ s) ≡ unlines (map (edit_line_answer r) (lines_from l (b ∷ s)))
    by true q h k =
        rw (eqb-true b line_feed q, feed_all (editing r (kept l)) s, h, lines_feed l s, edit_kept r l)
        (unlines_more (edit_line_answer r l) (map (edit_line_answer r) (lines_from [] s)))
    by false q h k =
        rw (byte-all (editing r (kept l)) b s q, lines-byte l b s q) (ap (λ (t : List ℕ). printed_all (editing r t) s) (kept_front l (b ∷ [])) ∙ k)

-- behind the first line
first-all : (o : Option Reference) (s : List ℕ) → ((r : Reference) → printed_all (editing r (kept [])) s ≡ unlines (map (edit_line_answer r) (lines_from [] s)))
    → unlines (answers_of o []) ++ printed_all (behind_first (accepted o)) s ≡ unlines (answers_of o (lines_from [] s))
unfolding answers_of accepted accepted_by behind_first kept answers_from
first-all none s h = ap (λ (t : List ℕ). unlines (refused_line 30 ∷ []) ++ t) (ended_all s) ∙ append-nil (unlines (refused_line 30 ∷ []))
first-all (some r) s h = by (reference_refusal text_limits.longest r)
  where
    by : (n : ℕ) → unlines (answers_from n r []) ++ printed_all (behind_first (accepted_by n r)) s ≡ unlines (answers_from n r (lines_from [] s))
    by zero = rw (h r) (unlines_more (bytes "reference " ++ reference_protein r) (map (edit_line_answer r) (lines_from [] s)))
    by (suc n) = ap (λ (t : List ℕ). unlines (refused_line (suc n) ∷ []) ++ t) (ended_all s) ∙ append-nil (unlines (refused_line (suc n) ∷ []))

-- from a first line that is begun
opening_end : (l : List ℕ) → printed_all (opening (kept l)) [] ≡ unlines (answers (lines_from l []))
unfolding printed_all printed after printed_last kept lines_from answered answers unlines
opening_end [] = refl
opening_end (x ∷ l) = ap (λ (o : Option Reference). unlines (answers_of o [])) (first_kept (x ∷ l))

opening_all : (l s : List ℕ) → printed_all (opening (kept l)) s ≡ unlines (answers (lines_from l s))
unfolding next_line answered longer answers
opening_all l [] = opening_end l
opening_all l (b ∷ s) = by (eqb b line_feed) refl (opening_all (l ++ (b ∷ [])) s)
  where
    by : (e : Bool) → eqb b line_feed ≡ e → printed_all (opening (kept (l ++ (b ∷ [])))) s ≡ unlines (answers (lines_from (l ++ (b ∷ [])) s))
        → printed_all (opening (kept l)) (b ∷ s) ≡ unlines (answers (lines_from l (b ∷ s)))
    by true q k =
        rw (eqb-true b line_feed q, feed_all (opening (kept l)) s, lines_feed l s, first_kept l)
        (first-all (if fits_line l then reference_line l else none) s (λ r. edits_all r [] s))
    by false q k =
        rw (byte-all (opening (kept l)) b s q, lines-byte l b s q) (ap (λ (t : List ℕ). printed_all (opening t) s) (kept_front l (b ∷ [])) ∙ k)

-- the whole run
pub whole : (input : List ℕ) → run input ≡ printed_all start input
unfolding run lines kept
whole input = sym (opening_all [] input)

-- what is printed for the pieces of an input, one after the other, and at its end
unfoldable pub printed_pieces : Stage → List (List ℕ) → List ℕ
printed_pieces x [] = printed_last x
printed_pieces x (s ∷ pieces) = printed x s ++ printed_pieces (after x s) pieces

-- the pieces in a row
unfoldable pub joined : List (List ℕ) → List ℕ
joined [] = []
joined (s ∷ pieces) = s ++ joined pieces

pieces_all : (x : Stage) (pieces : List (List ℕ)) → printed_all x (joined pieces) ≡ printed_pieces x pieces
unfolding printed_all printed_pieces joined printed after
pieces_all x [] = refl
pieces_all x (s ∷ pieces) =
    rw (printed-append x s (joined pieces), after-append x s (joined pieces))
    (append_assoc (printed x s) (printed (after x s) (joined pieces)) (printed_last (after (after x s) (joined pieces)))
    ∙ ap (λ (t : List ℕ). printed x s ++ t) (pieces_all (after x s) pieces))

-- whatever the sizes in which the input arrives, what is printed is document 01's run of the whole input
pub run_in_pieces : (pieces : List (List ℕ)) → run (joined pieces) ≡ printed_pieces start pieces
run_in_pieces pieces = whole (joined pieces) ∙ pieces_all start pieces
