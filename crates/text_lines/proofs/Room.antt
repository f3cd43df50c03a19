-- How long a line's answer is at most, and that a step into as much room as that takes something.
-- Assumes nothing.
use Rattle.std.specs.Prelude.{if◌then◌else◌}
use mathlib.Core.Path.{◌≡◌, refl}
use mathlib.Core.Bool.{Bool, true, false}
use mathlib.Core.List.{List, [], ◌∷◌, ◌++◌}
use mathlib.Core.Option.{Option, none, some}
use Prim.Native.Nat.{ℕ, zero, suc, ◌≤◌, ◌<◌}
use native.Mathlib.Omega.{arith}
use lib.Dec.{eqb}
use lib.ListN.{length, take, length-append}
use Rattle.rules.specs.Bytes.{bytes, is_none, unless}
use Rattle.rules.specs.Translation.{exception_list, residue_count}
use Rattle.rules.specs.Reference.{Reference, size, cds_size, reference_protein}
use Rattle.rules.specs.Edit.{Asked}
use Rattle.rules.specs.Protein.{altered_protein}
use Rattle.rules.specs.Record.{record_of}
use Rattle.rules.specs.Refusal.{reference_refusal, refusal, record_unless}
use Rattle.rules.specs.Line.{text_limits, edit_line, fits_line, reference_line}
use Rattle.rules.specs.Run.{refused_line, answer_line, edit_answer, edit_line_answer, answers_from, answers_of, answers, line_feed, unlines}
use Rattle.rules.proofs.Reference.{accepted, protein_read}
use Rattle.rules.proofs.Refusing.{reference-accepted}
use Rattle.rules.proofs.Altered.{altered-fits}
use Rattle.rules.proofs.Protein.{altered_room_lem}
use Rattle.rules.specs.Views.{bare}
use Rattle.text_answers.specs.declared.Phase.{Phase}
use Rattle.text_answers.specs.declared.Phase.TheVariants.{Opening, Editing, Ended}
use Rattle.text_answers.specs.Rooms.{protein_room, altered_room, answer_room}
use Rattle.text_answers.specs.Stage.{Stage, answered}
use Rattle.text_answers.specs.Lines.{stage_by, KnownIn}
use Rattle.text_lines.specs.declared.State.{State}
use Rattle.text_gather.specs.Steps.{line_of, printed, printed_last, Steps}
use Rattle.text_lines.specs.Memory.{stage_of, Keeps}
use Rattle.text_prints.proofs.Sizes.{refused_size, record_size}

-- R is some, and R and A are short
protein_size : (r : Reference) → reference_refusal text_limits.longest r ≡ 0 → (1 ≤ length (reference_protein r)) × (length (reference_protein r) ≤ protein_room)
unfolding residue_count cds_size size
protein_size r h =
    let a = accepted text_limits.longest r h in
    let p = protein_read text_limits.longest r h in
    (omega (arith, p.two), omega (arith, p.counted, a.fits, a.bounds.first, a.bounds.inside))

altered_size : (r : Reference) (e : Asked) → refusal text_limits r e ≡ 0 → length (altered_protein r e) ≤ altered_room
unfolding residue_count
altered_size r e h =
    let a = reference-accepted text_limits r e h in
    omega (arith, altered_room_lem text_limits r e h, altered-fits text_limits r e h, a.bounds.first)

answer_size : (r : Reference) → reference_refusal text_limits.longest r ≡ 0 → (o : Option Asked) → length (edit_answer r o) < answer_room
unfolding edit_answer answer_line record_unless unless
answer_size r h none = omega (arith, refused_size 30)
answer_size r h (some e) = by (refusal text_limits r e) refl
  where
    by : (n : ℕ) → refusal text_limits r e ≡ n → length (answer_line (unless n (record_of r e)) (reference_protein r) (altered_protein r e)) < answer_room
    by zero z = let short = protein_size r h in omega (arith, record_size (record_of r e) (reference_protein r) (altered_protein r e) short.0, short.1, altered_size r e z)
    by (suc n) z = omega (arith, refused_size (suc n))

-- a line with its end
one_line : (l : List ℕ) → length l < answer_room → length (unlines (l ∷ [])) ≤ answer_room
unfolding unlines
one_line l h = omega (arith, length-append l (line_feed ∷ []))

first_size : (o : Option Reference) → length (unlines (answers_of o [])) ≤ answer_room
unfolding answers_of answers_from
first_size none = one_line (refused_line 30) (omega (arith, refused_size 30))
first_size (some r) = by (reference_refusal text_limits.longest r) refl
  where
    by : (n : ℕ) → reference_refusal text_limits.longest r ≡ n → length (unlines (answers_from n r [])) ≤ answer_room
    by zero z = one_line (bytes "reference " ++ reference_protein r) (omega (arith, (protein_size r z).1))
    by (suc n) z = one_line (refused_line (suc n)) (omega (arith, refused_size (suc n)))

-- whatever the stage
line_size : (p : Phase) (l letters protein : List ℕ) → KnownIn p letters protein → length (answered (stage_by p l letters)) ≤ answer_room
unfolding answered answers edit_line_answer exception_list
line_size Opening l letters protein k = first_size (if fits_line l then reference_line l else none)
line_size (Editing known size) l letters protein k =
    one_line (edit_line_answer (bare (take size letters) known.cds) l)
    (answer_size (bare (take size letters) known.cds) k.2.known.accepted (if fits_line l then edit_line l else none))
line_size Ended l letters protein k = omega arith

pub answered-size : (s : State) (line letters protein : List ℕ) → Keeps s letters protein → length (answered (stage_of s line letters)) ≤ answer_room
answered-size s line letters protein h = line_size s.phase (take s.held line) letters protein h.known

pub last-size : (s : State) (line letters protein : List ℕ) → Keeps s letters protein → length (printed_last (stage_of s line letters)) ≤ answer_room
unfolding printed_last
last-size s line letters protein h = by (is_none (line_of (stage_of s line letters)))
  where
    by : (t : Bool) → length (if t then [] else answered (stage_of s line letters)) ≤ answer_room
    by true = omega arith
    by false = answered-size s line letters protein h

-- one byte prints no more than one line's answer
one_byte : (x : Stage) (s : List ℕ) → length (printed x (take 1 s)) ≤ length (answered x)
unfolding printed
one_byte x [] = omega arith
one_byte x (b ∷ s) = by (eqb b line_feed)
  where
    by : (t : Bool) → length {A = ℕ} (elim t as (λ z. List ℕ) [ true ↦ answered x ++ [] | false ↦ [] ]) ≤ length (answered x)
    by true = omega (arith, length-append (answered x) [])
    by false = omega arith

pub takes_some : (s : State) (line letters protein : List ℕ) → Keeps s letters protein → (x : Stage) (input : List ℕ) (t u : ℕ) (old out : List ℕ)
    → Steps (stage_of s line letters) x input t u old out → answer_room ≤ length old → 1 ≤ length input → 1 ≤ t
takes_some s line letters protein h x input t u old out k room there = by t refl
  where
    by : (n : ℕ) → t ≡ n → 1 ≤ t
    by zero z =
        let more : length old < length (printed (stage_of s line letters) (take 1 input)) = rw z at (k.most (omega arith)) in
        absurd (omega (arith, one_byte (stage_of s line letters) input, answered-size s line letters protein h))
    by (suc n) z = omega arith
