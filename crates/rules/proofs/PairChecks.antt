-- Inputs that decide clauses of E13, in a single statement over the list of them.
use mathlib.Core.Path.{◌≡◌, refl}
use mathlib.Core.List.{List, [], ◌∷◌, ◌++◌, map}
use mathlib.Core.Option.{Option, none, some}
use Prim.Native.Nat.{ℕ}
use Prim.Native.String.{String}
use Rattle.rules.specs.declared.PairReport.{PairReport}
use Rattle.rules.specs.Bytes.{bytes, Result, given, refused}
use Rattle.rules.specs.Reference.{Reference}
use Rattle.rules.specs.Edit.{Asked}
use Rattle.rules.specs.Pair.{PairRoom, PairLimits, pair_limits, PairOutcome, pair_outcome}
use Rattle.rules.specs.Line.{edit_line}
use Rattle.rules.specs.Run.{refused_line}
use Rattle.rules.specs.Opened.{opened}
use Rattle.rules.proofs.Doubtful.{Decided, ◌⇒◌, worked, exc}
use Rattle.rules.proofs.Requested.{ending}

-- a refusal's line, or the transcript and its protein
abbrev pub answered_by : Result PairReport → PairOutcome → List ℕ
answered_by (refused n) o = refused_line n
answered_by (given x) o = o.transcript ++ (bytes " " ++ o.altered)

abbrev pub paired_of : PairLimits → PairRoom → Reference → Option Asked → Option Asked → List ℕ
paired_of m room r none f = refused_line 30
paired_of m room r (some e) none = refused_line 30
paired_of m room r (some e) (some f) = answered_by (pair_outcome m r e f room).answer (pair_outcome m r e f room)

abbrev pub paired_in : PairLimits → PairRoom → Reference → String → String → List ℕ
paired_in m room r e f = paired_of m room r (edit_line (bytes e)) (edit_line (bytes f))

abbrev pub ample : PairRoom
ample = record { transcript = 40; altered = 20 }

-- two edit lines
abbrev pub paired : Reference → String → String → List ℕ
paired r e f = paired_in pair_limits ample r e f

-- the most new bases, of the first edit and of the second
abbrev pub most : ℕ → ℕ → PairLimits
most n k = record { longest = pair_limits.longest; first = n; second = k }

abbrev pub pairs : List Decided
pairs =
    -- a base between, by index
    paired worked "4G>C" "5C>G" ⇒ "refused 51"
    ∷ paired worked "4G>C" "6C>G" ⇒ "GGATGCCGAAATGGTAACCTGAC MPKW*"
    ∷ paired worked "6C>G" "4G>C" ⇒ "GGATGCCGAAATGGTAACCTGAC MPKW*"
    -- two gaps at one place touch; neighbouring gaps have a base between
    ∷ paired worked "4_5insA" "4_5insG" ⇒ "refused 51"
    ∷ paired worked "4_5insA" "5_6insA" ⇒ "GGATGGACACAAATGGTAACCTGAC MDTNGNLX"
    -- a duplication touches start to end, its gap with them
    ∷ paired worked "4_6dup" "3_4insG" ⇒ "refused 51"
    ∷ paired worked "4_6dup" "6_7insG" ⇒ "refused 51"
    ∷ paired worked "4_6dup" "2_3insG" ⇒ "GGATGGGCCGCCAAATGGTAACCTGAC MGRQMVT*"
    -- an identity touches its start to end
    ∷ paired worked "4=" "5C>T" ⇒ "refused 51"
    -- the lowest of 51, 52 and 53; an Unknown's range ends with the transcript
    ∷ paired worked "1_*7del" "4del" ⇒ "refused 51"
    ∷ paired worked "1_2del" "4_*7del" ⇒ "refused 52"
    ∷ paired (ending 0 "ATGTAATAA" []) "1A>G" "3G>A" ⇒ "refused 52"
    -- also where the cut drops nothing
    ∷ paired worked "8_9insATAA" "4del" ⇒ "refused 53"
    ∷ paired worked "4del" "8_9insATAA" ⇒ "refused 53"
    -- all of the first's 7 to 10 before any of the second's
    ∷ paired worked "10_11insZ" "0del" ⇒ "refused 10"
    ∷ paired worked "0del" "10_11insZ" ⇒ "refused 7"
    -- no stop cut worked out anew
    ∷ paired worked "4del" "9_10insTTAA" ⇒ "GGATGCCAAATTAATGGTAACCTGAC MPN*"
    -- read without exceptions; Unknown reads R with them
    ∷ paired (ending 0 "ATGTGAAAATAA" (exc 2 "U" ∷ [])) "1=" "9A>G" ⇒ "ATGTGAAAGTAA M*"
    -- 11 and 12 for the pair's length, and no R
    ∷ paired_in pair_limits (record { transcript = 23; altered = 6 }) worked "8A>G" "4G>T" ⇒ "refused 12"
    ∷ paired_in pair_limits (record { transcript = 23; altered = 7 }) worked "8A>G" "4G>T" ⇒ "GGATGTCCAGATGGTAACCTGAC MSRW*"
    ∷ paired_in pair_limits (record { transcript = 22; altered = 0 }) worked "8A>G" "4G>T" ⇒ "refused 11"
    -- 10 by each edit's own limit
    ∷ paired_in (most 1 4096) ample worked "4_5insAC" "9del" ⇒ "refused 10"
    ∷ paired_in (most 4096 1) ample worked "9del" "4_5insAC" ⇒ "refused 10"
    ∷ paired_in (most 1 1) ample worked "4_6dup" "9del" ⇒ "GGATGGCCGCCAATGGTAACCTGAC MAANGNLX"
    -- the X for a rest, in a reference cut short
    ∷ paired (ending 2 "ATGGCCA" []) "1A>G" "7A>C" ⇒ "GTGGCCC VAX"
    ∷ []

pub all-pairs : map (λ (d : Decided). d.computed) pairs ≡ map (λ (d : Decided). bytes d.answer) pairs
unfolding opened
all-pairs = refl
