-- Inputs that decide clauses of E12 which can be read two ways, in a single statement over the list of them: stores that are read and written, and
-- the longest edit of a call.
use mathlib.Core.Path.{◌≡◌, refl}
use mathlib.Core.List.{List, [], ◌∷◌, ◌++◌, map}
use mathlib.Core.Option.{Option, none, some}
use Prim.Native.Nat.{ℕ}
use Prim.Native.String.{String}
use lib.ListN.{length}
use Rattle.rules.specs.declared.Report.{Report}
use Rattle.rules.specs.declared.Settings.{Settings}
use Rattle.rules.specs.Bytes.{bytes, Result, given, refused}
use Rattle.rules.specs.Reference.{Reference, reference_protein}
use Rattle.rules.specs.Edit.{Asked}
use Rattle.rules.specs.Protein.{altered_protein}
use Rattle.rules.specs.Longest.{outcome_within, check_within}
use Rattle.rules.specs.Settings.{Store, Refused, Newer, Held, stored_settings, written_settings}
use Rattle.rules.specs.Line.{edit_line}
use Rattle.rules.specs.Run.{decimal, refused_line, record_line}
use Rattle.rules.specs.Opened.{opened}
use Rattle.rules.proofs.Doubtful.{Decided, ◌⇒◌, worked, of}
use Rattle.rules.proofs.Requested.{answered_by, ample, no_room}

-- what a store is read as: version, table, profile, width and longest edit
abbrev pub read_as : Store → List ℕ
read_as (Refused n) = refused_line n
read_as Newer = refused_line 60 ++ bytes " newer"
read_as (Held x) =
    decimal x.version ++ bytes ": " ++ decimal x.table ++ bytes " " ++ decimal x.profile ++ bytes " " ++ decimal x.width ++ bytes " " ++ decimal x.longest

abbrev pub reads : ℕ → List ℕ → List ℕ
reads newest s = read_as (stored_settings newest s)

-- a store of version 1, and the fields behind the version
abbrev pub fields : List ℕ
fields = 2 ∷ 0 ∷ 1 ∷ 0 ∷ 3 ∷ 0 ∷ 1 ∷ 1 ∷ 4 ∷ 0 ∷ 1 ∷ 3 ∷ []

abbrev pub first : List ℕ
first = 1 ∷ 0 ∷ 1 ∷ 1 ∷ fields

abbrev pub second : ℕ → ℕ → List ℕ
second high low = 1 ∷ 0 ∷ 1 ∷ 2 ∷ fields ++ (5 ∷ 0 ∷ 2 ∷ high ∷ low ∷ [])

abbrev pub storing : ℕ → ℕ → ℕ → ℕ → ℕ → Settings
storing version table profile width longest = record { version = version; table = table; profile = profile; width = width; longest = longest }

-- how many bytes are written, and whether reading them gives the settings back
abbrev pub shown_written : Result (List ℕ) → List ℕ
shown_written (refused n) = refused_line n
shown_written (given s) = decimal (length s) ++ bytes " bytes " ++ reads 2 s

abbrev pub writes : Settings → ℕ → List ℕ
writes x room = shown_written (written_settings x room)

abbrev pub line_of : Result Report → Reference → Asked → List ℕ
line_of (refused n) r e = refused_line n
line_of (given p) r e = record_line p.found (reference_protein r) (altered_protein r e)

abbrev pub edited_of : ℕ → Reference → Option Asked → List ℕ
edited_of longest r none = refused_line 30
edited_of longest r (some e) = line_of (outcome_within longest r e ample).answer r e

abbrev pub edited_within : ℕ → Reference → String → List ℕ
edited_within longest r edit = edited_of longest r (edit_line (bytes edit))

abbrev pub checked_of : ℕ → Reference → Option Asked → List ℕ
checked_of longest r none = refused_line 30
checked_of longest r (some e) = answered_by (check_within longest r e (record { number = 0; deleted = []; inserted = [] }) no_room).answer

abbrev pub kept : List Decided
kept =
    -- 60 where the first field isn't tag 1 with one byte
    reads 2 [] ⇒ "refused 60"
    ∷ reads 2 (1 ∷ 0 ∷ 1 ∷ []) ⇒ "refused 60"
    ∷ reads 2 fields ⇒ "refused 60"
    ∷ reads 2 (1 ∷ 0 ∷ 2 ∷ 1 ∷ 1 ∷ fields) ⇒ "refused 60"
    -- newer, and nothing behind the version is looked at; 0 is unknown
    ∷ reads 1 (1 ∷ 0 ∷ 1 ∷ 2 ∷ []) ⇒ "refused 60 newer"
    ∷ reads 1 (1 ∷ 0 ∷ 1 ∷ 2 ∷ 255 ∷ 255 ∷ []) ⇒ "refused 60 newer"
    ∷ reads 2 (1 ∷ 0 ∷ 1 ∷ 3 ∷ []) ⇒ "refused 60 newer"
    ∷ reads 2 (1 ∷ 0 ∷ 1 ∷ 0 ∷ []) ⇒ "refused 60"
    -- a reader of other versions reads nothing
    ∷ reads 0 first ⇒ "refused 60"
    ∷ reads 3 (1 ∷ 0 ∷ 1 ∷ 4 ∷ []) ⇒ "refused 60"
    -- both readers take version 1, and only one takes version 2
    ∷ reads 1 first ⇒ "1: 0 1 3 4096"
    ∷ reads 2 first ⇒ "1: 0 1 3 4096"
    ∷ reads 1 (second 16 0) ⇒ "refused 60 newer"
    ∷ reads 2 (second 1 2) ⇒ "2: 0 1 3 258"
    -- all of 61 before 62, the bytes behind the last field too
    ∷ reads 2 (1 ∷ 0 ∷ 1 ∷ 2 ∷ []) ⇒ "refused 61"
    ∷ reads 2 (1 ∷ 0 ∷ 1 ∷ 1 ∷ 2 ∷ 0 ∷ 1 ∷ 7 ∷ 3 ∷ 0 ∷ 1 ∷ 1 ∷ []) ⇒ "refused 61"
    ∷ reads 2 (1 ∷ 0 ∷ 1 ∷ 1 ∷ 2 ∷ 0 ∷ 1 ∷ 7 ∷ 3 ∷ 0 ∷ 1 ∷ 1 ∷ 4 ∷ 0 ∷ 1 ∷ 3 ∷ []) ⇒ "refused 62"
    ∷ reads 2 (first ++ (0 ∷ [])) ⇒ "refused 61"
    -- tag 5 is extra in version 1
    ∷ reads 2 (first ++ (5 ∷ 0 ∷ 2 ∷ 16 ∷ 0 ∷ [])) ⇒ "refused 61"
    -- 1 to 4,096
    ∷ reads 2 (second 16 0) ⇒ "2: 0 1 3 4096"
    ∷ reads 2 (second 16 1) ⇒ "refused 62"
    ∷ reads 2 (second 0 0) ⇒ "refused 62"
    -- written: 60, 62, 63
    ∷ writes (storing 1 0 1 3 5) 0 ⇒ "refused 62"
    ∷ writes (storing 3 9 9 9 0) 0 ⇒ "refused 60"
    ∷ writes (storing 1 0 1 3 4096) 15 ⇒ "refused 63"
    ∷ writes (storing 1 0 1 3 4096) 16 ⇒ "16 bytes 1: 0 1 3 4096"
    ∷ writes (storing 2 2 0 1 4095) 20 ⇒ "refused 63"
    ∷ writes (storing 2 2 0 1 4095) 21 ⇒ "21 bytes 2: 2 0 1 4095"
    -- a number is judged before it is cut to a byte
    ∷ writes (storing 257 0 1 3 4096) 30 ⇒ "refused 60"
    ∷ writes (storing 2 256 1 3 4096) 30 ⇒ "refused 62"
    ∷ writes (storing 2 0 1 3 4097) 30 ⇒ "refused 62"
    ∷ []

pub all-kept : map (λ (d : Decided). d.computed) kept ≡ map (λ (d : Decided). bytes d.answer) kept
unfolding opened
all-kept = refl

-- no letters, and a position 0
abbrev pub nothing : Reference
nothing = of 0 0 9 "" []

abbrev pub longest : List Decided
longest =
    -- the new bases alone, before the cut
    edited_within 1 worked "4_5insAC" ⇒ "refused 10"
    ∷ edited_within 2 worked "4_5insAC" ⇒ "frameshift 2 AKW* DPNGNLX"
    ∷ edited_within 1 worked "4_9dup" ⇒ "duplication 4 - AK 2"
    ∷ edited_within 3 worked "9_10insTAGC" ⇒ "refused 10"
    ∷ edited_within 4 worked "9_10insTAGC" ⇒ "stop-gained 4 W -"
    -- 0 for 4,096, and 62 before 1
    ∷ edited_within 0 worked "4_5insAC" ⇒ "frameshift 2 AKW* DPNGNLX"
    ∷ edited_within 4096 worked "4_5insAC" ⇒ "frameshift 2 AKW* DPNGNLX"
    ∷ edited_within 4097 worked "4_5insAC" ⇒ "refused 62"
    ∷ edited_within 4097 nothing "0del" ⇒ "refused 62"
    ∷ edited_within 4096 nothing "0del" ⇒ "refused 1"
    -- a record that is checked
    ∷ checked_of 1 worked (edit_line (bytes "4_5insAC")) ⇒ "refused 10"
    ∷ checked_of 2 worked (edit_line (bytes "4_5insAC")) ⇒ "refused 11"
    ∷ checked_of 4097 nothing (edit_line (bytes "0del")) ⇒ "refused 62"
    ∷ []

pub all_longest : map (λ (d : Decided). d.computed) longest ≡ map (λ (d : Decided). bytes d.answer) longest
unfolding opened
all_longest = refl
