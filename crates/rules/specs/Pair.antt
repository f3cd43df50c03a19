-- E13, "Two edits on one transcript": the transcript of both, and its protein, read without exceptions.
use Rattle.std.specs.Prelude.{ℕ, zero, suc, ◌+◌, ◌-◌, ◌≡◌, List, [], ◌∷◌, ◌++◌, Bool, ◌||◌, not, ltb, length, drop, if◌then◌else◌}
use Rattle.rules.specs.declared.Kind.TheVariants.{Insertion}
use Rattle.rules.specs.declared.PairReport.{PairReport}
use Rattle.rules.specs.Bytes.{Test, ◌↯◌, first_number, Result, given, refused, over}
use Rattle.rules.specs.Translation.{translated, residue_count, through_stop}
use Rattle.rules.specs.Reference.{Reference, size, reference_tests}
use Rattle.rules.specs.Edit.{Asked, is, kind_of, start_index, end_index, edit_tests}
use Rattle.rules.specs.Altered.{Swap, carried, swap, finds_stop, deleted, inserted}
use Rattle.rules.specs.Record.{is_unknown}
use Rattle.rules.specs.Refusal.{limits}

-- the bases that an edit touches: start..end, copied bases included; an insertion is its gap
unfoldable pub touched_from : Reference → Asked → ℕ
touched_from r e = if is Insertion (kind_of e) then start_index r e + 1 else start_index r e

unfoldable pub touched_to : Reference → Asked → ℕ
touched_to r e = if is Insertion (kind_of e) then start_index r e + 1 else end_index r e

-- e lies ahead of f, with at least one untouched base between them
unfoldable pub is_ahead : Reference → Asked → Asked → Bool
is_ahead r e f = ltb (touched_to r e) (touched_from r f)

-- the touched ranges have at least one untouched base between them
unfoldable pub are_apart : Reference → Asked → Asked → Bool
are_apart r e f = is_ahead r e f || is_ahead r f e

-- 51: the ranges touch or have no base between; 52: an edit is Unknown; 53: an edit's stop cut finds a `*`
unfoldable pub pair_tests : Reference → Asked → Asked → List Test
pair_tests r e f =
    not (are_apart r e f) ↯ 51
    ∷ (is_unknown r e || is_unknown r f) ↯ 52
    ∷ (finds_stop r e || finds_stop r f) ↯ 53
    ∷ []

-- an index behind a swap, moved by the swap's length change
unfoldable pub moved_by : Swap → ℕ → ℕ
moved_by w at = at + length w.put - (w.to - w.from)

unfoldable pub moved_swap : Swap → Swap → Swap
moved_swap w v = record { from = moved_by w v.from; to = moved_by w v.to; put = v.put }

-- carry out one, move the other by the first's length change if it lies behind, carry it out too, by index, with no stop cut
unfoldable pub pair_transcript : Reference → Asked → Asked → List ℕ
pair_transcript r e f =
    carried (if is_ahead r e f then moved_swap (swap r e) (swap r f) else swap r f) (carried (swap r e) r.letters)

-- its protein, read without exceptions
unfoldable pub pair_protein : Reference → Asked → Asked → List ℕ
pair_protein r e f = through_stop (translated r.table [] (drop (r.cs - 1) (pair_transcript r e f)))

-- L plus both net changes
unfoldable pub pair_length : Reference → Asked → Asked → ℕ
pair_length r e f = size r - (deleted r e + deleted r f) + (inserted r e + inserted r f)

-- the bytes lent for the transcript and its protein
pub record PairRoom : Type 0 where
  pub transcript : ℕ
  pub altered : ℕ

-- 11 and 12, for the pair's length
unfoldable pub pair_room_tests : ℕ → ℕ → PairRoom → List Test
pair_room_tests cs n room = ltb room.transcript n ↯ 11 ∷ ltb room.altered (residue_count (n + 1 - cs)) ↯ 12 ∷ []

-- the longest transcript, and the most new bases of each edit
pub record PairLimits : Type 0 where
  pub longest : ℕ
  pub first : ℕ
  pub second : ℕ

-- what the library takes
abbrev pub pair_limits : PairLimits
pair_limits = record { longest = limits.longest; first = limits.most; second = limits.most }

-- 1 to 5, 6 or 28; the first edit's 7 to 10, then the second's; 51, 52, 53; 11 and 12; and 0 where none applies
unfoldable pub pair_refusal : PairLimits → Reference → Asked → Asked → PairRoom → ℕ
pair_refusal m r e f room =
    first_number
    (reference_tests m.longest r
    ++ (edit_tests m.first r e
    ++ (edit_tests m.second r f ++ (pair_tests r e f ++ pair_room_tests r.cs (pair_length r e f) room))))

-- an answer, and what is written to each of the two buffers from its start
pub record PairOutcome : Type 0 where
  pub answer : Result PairReport
  pub transcript : List ℕ
  pub altered : List ℕ

-- a refusal writes nothing
unfoldable pub pair_by : ℕ → List ℕ → List ℕ → PairOutcome
pair_by (suc n) transcript altered = record { answer = refused (suc n); transcript = []; altered = [] }
pair_by zero transcript altered =
    record { answer = given (record { transcript = length transcript; altered = length altered }); transcript = transcript; altered = altered }

unfoldable pub pair_outcome : PairLimits → Reference → Asked → Asked → PairRoom → PairOutcome
pair_outcome m r e f room = pair_by (pair_refusal m r e f room) (pair_transcript r e f) (pair_protein r e f)

-- the answer is the outcome's, and each buffer is what it was under what the outcome writes
pub record Pairs (o : PairOutcome) (a : Result PairReport) (transcript transcript' altered altered' : List ℕ) : Type 0 where
  pub says : a ≡ o.answer
  pub holds-transcript : transcript' ≡ over o.transcript transcript
  pub holds-altered : altered' ≡ over o.altered altered
