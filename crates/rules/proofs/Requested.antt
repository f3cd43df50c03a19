-- Inputs that decide clauses of document 02 which can be read two ways, in a single statement over the list of them, request by request.
use Rattle.std.specs.Prelude.{if◌then◌else◌}
use mathlib.Core.Path.{◌≡◌, refl}
use mathlib.Core.Bool.{false}
use mathlib.Core.List.{List, [], ◌∷◌, ◌++◌, map}
use mathlib.Core.Option.{Option, none, some}
use Prim.Native.Nat.{ℕ}
use Prim.Native.String.{String}
use lib.ListN.{length}
use Rattle.rules.specs.declared.Exception.{Exception}
use Rattle.rules.specs.declared.Verdict.{Verdict}
use Rattle.rules.specs.Bytes.{bytes, Result, given, refused}
use Rattle.rules.specs.Translation.{translation}
use Rattle.rules.specs.Reference.{Reference}
use Rattle.rules.specs.Edit.{Asked}
use Rattle.rules.specs.Refusal.{limits, Room}
use Rattle.rules.specs.Check.{Proposal, check_outcome}
use Rattle.rules.specs.Stored.{stored_reference, read_reference}
use Rattle.rules.specs.Line.{edit_line}
use Rattle.rules.specs.Answer.{outcome}
use Rattle.rules.specs.Values.{values_of}
use Rattle.rules.specs.Run.{decimal, refused_line}
use Rattle.rules.specs.Opened.{opened}
use Rattle.rules.proofs.Doubtful.{Decided, ◌⇒◌, worked, exc, edited, shown, protein_in}

-- letters that are a CDS from first to last, by their end
abbrev pub ending : ℕ → String → List Exception → Reference
ending end letters es =
    record { letters = bytes letters; cs = 1; ce = length (bytes letters); table = 0; exceptions = es; end = end }

-- a stored `ATGGCC` with bytes behind it: R, or the refusal
abbrev pub stored_with : List ℕ → List ℕ
stored_with s =
    protein_in (stored_reference limits.longest ((1 ∷ 0 ∷ 6 ∷ bytes "ATGGCC") ++ (2 ∷ 0 ∷ 4 ∷ 0 ∷ 1 ∷ 0 ∷ 6 ∷ 3 ∷ 0 ∷ 1 ∷ 0 ∷ s)))

-- E8: references cut short
abbrev pub cut_short : List Decided
cut_short =
    -- 3 by the end, at least 6 bases for each; an unknown one keeps the old rule
    edited (ending 2 "ATGGCC" []) "1=" ⇒ "refused 3"
    ∷ edited (ending 2 "ATGGC" []) "1=" ⇒ "refused 3"
    ∷ edited (ending 9 "ATGGCCA" []) "1=" ⇒ "refused 3"
    ∷ edited (ending 9 "ATGTAA" []) "1=" ⇒ "refused 28"
    -- 6 is for an end at a stop alone
    ∷ edited (ending 0 "ATGGCC" []) "1=" ⇒ "refused 6"
    -- the letters must end with the CDS
    ∷ edited (record { letters = bytes "ATGGCCC"; cs = 1; ce = 6; table = 0; exceptions = []; end = 1 }) "1=" ⇒ "refused 28"
    -- no `*` anywhere in R, exceptions applied
    ∷ edited (ending 1 "ATGTAAGCC" []) "1=" ⇒ "refused 28"
    ∷ edited (ending 1 "ATGTAA" (exc 2 "K" ∷ [])) "4T>G" ⇒ "substitution 2 K E"
    -- the cut codon has no exception, and 5 comes before 28
    ∷ edited (ending 2 "ATGTAAA" (exc 3 "K" ∷ [])) "1=" ⇒ "refused 5"
    -- X for the rest is a residue of R
    ∷ edited (ending 2 "ATGGCCA" []) "7A>G" ⇒ "silent 3 X X"
    ∷ edited (ending 2 "ATGGCCA" []) "6_7insAA" ⇒ "frameshift 3 X K"
    -- nothing lies behind the CDS
    ∷ edited (ending 1 "ATGGCC" []) "4_*1del" ⇒ "unknown"
    ∷ edited (ending 1 "ATGGCC" []) "1_*1dup" ⇒ "refused 7"
    -- R is the beginning of A: nothing is deleted, so no extension
    ∷ edited (ending 1 "ATGGCC" []) "5_6insC" ⇒ "frameshift 3 - X"
    ∷ edited (ending 1 "ATGGCC" []) "3_4insGCCTAA" ⇒ "stop-gained 3 - *"
    -- tag 8: its content is judged with its length, and no tag stands behind it
    ∷ stored_with (8 ∷ 0 ∷ 1 ∷ 0 ∷ []) ⇒ "refused 23"
    ∷ stored_with (8 ∷ 0 ∷ 1 ∷ 1 ∷ []) ⇒ "MA"
    ∷ stored_with (8 ∷ 0 ∷ 1 ∷ 2 ∷ []) ⇒ "refused 3"
    ∷ stored_with (8 ∷ 0 ∷ 1 ∷ 1 ∷ 4 ∷ 0 ∷ 0 ∷ []) ⇒ "refused 21"
    ∷ []

pub cut_short_lem : map (λ (d : Decided). d.computed) cut_short ≡ map (λ (d : Decided). bytes d.answer) cut_short
unfolding opened
cut_short_lem = refl

-- what a proposal of an edit line is answered, with so much room for the altered transcript, R and A
abbrev pub answered_by : Result Verdict → List ℕ
answered_by (refused n) = refused_line n
answered_by (given v) = (if v.replays then bytes "yes " else bytes "no ") ++ (if v.shortest then bytes "yes" else bytes "no")

abbrev pub checked_of : Room → Reference → Option Asked → Proposal → List ℕ
checked_of room r none p = refused_line 30
checked_of room r (some e) p = answered_by (check_outcome limits r e p room).answer

abbrev pub checked_in : Room → Reference → String → ℕ → String → String → List ℕ
checked_in room r edit number deleted inserted =
    checked_of room r (edit_line (bytes edit)) (record { number = number; deleted = bytes deleted; inserted = bytes inserted })

abbrev pub ample : Room
ample = record { transcript = 40; reference = 10; altered = 20 }

abbrev pub no_room : Room
no_room = record { transcript = 0; reference = 0; altered = 0 }

-- E7: records from older annotators
abbrev pub proposed : List Decided
proposed =
    -- 26 before 27, and also for Silent and NoProtein
    checked_in ample worked "6C>T" 0 "" "" ⇒ "refused 26"
    ∷ checked_in ample worked "1_*6del" 1 "MAKW*" "" ⇒ "refused 26"
    -- behind 12, but an Unknown before 11
    ∷ checked_in (record { transcript = 40; reference = 4; altered = 20 }) worked "8A>G" 9 "K" "R" ⇒ "refused 12"
    ∷ checked_in no_room worked "1_*7del" 3 "K" "R" ⇒ "refused 26"
    ∷ checked_in no_room worked "6C>T" 3 "K" "R" ⇒ "refused 11"
    -- the number may be length of R plus one; what isn't there is a no
    ∷ checked_in ample worked "8A>G" 6 "K" "R" ⇒ "no no"
    ∷ checked_in ample worked "8A>G" 7 "" "" ⇒ "refused 27"
    ∷ checked_in ample worked "8A>G" 3 "K" "r" ⇒ "refused 27"
    -- where the proteins part, and the longest ending left out, whatever the flag
    ∷ checked_in ample worked "4_6dup" 2 "" "A" ⇒ "yes no"
    ∷ checked_in ample worked "4_6dup" 3 "" "A" ⇒ "yes yes"
    ∷ checked_in ample worked "8A>G" 3 "KW" "RW" ⇒ "yes no"
    ∷ checked_in ample worked "10delinsTAG" 4 "W" "" ⇒ "yes yes"
    ∷ checked_in ample worked "10delinsTAG" 4 "W*" "*" ⇒ "yes no"
    -- R the beginning of A
    ∷ checked_in ample (ending 1 "ATGGCC" []) "5_6insC" 3 "" "X" ⇒ "yes yes"
    ∷ checked_in ample (ending 1 "ATGGCC" []) "5_6insC" 4 "" "X" ⇒ "refused 27"
    ∷ []

pub all-proposed : map (λ (d : Decided). d.computed) proposed ≡ map (λ (d : Decided). bytes d.answer) proposed
unfolding opened
all-proposed = refl

-- E5: copies that begin at residue 1
abbrev pub copied_from_one : List Decided
copied_from_one =
    -- of one residue, and of the first two
    edited (ending 0 "ATGAAATAA" []) "1_3dup" ⇒ "duplication 2 - M 1"
    ∷ edited (ending 0 "ATGAAATAA" []) "1_6dup" ⇒ "duplication 3 - MK 1"
    -- by residues: an insertion of bases that copies is one too
    ∷ edited worked "3_4insATG" ⇒ "duplication 2 - M 1"
    -- more residues inserted than stand before: no copy
    ∷ edited worked "3_4insATGATG" ⇒ "insertion 2 - MM"
    ∷ edited worked "3_4insATGGCC" ⇒ "insertion 2 - MA"
    -- the shared beginning is as long as it can be
    ∷ edited (ending 0 "ATGATGTAA" []) "1_3dup" ⇒ "duplication 3 - M 2"
    -- behind R too, where R is the beginning of A
    ∷ edited (ending 1 "ATGGCC" []) "1_6dup" ⇒ "duplication 3 - MA 1"
    -- a proposal's class isn't looked at
    ∷ checked_in ample worked "1_3dup" 2 "" "M" ⇒ "yes yes"
    ∷ []

pub copied_from_one_lem : map (λ (d : Decided). d.computed) copied_from_one ≡ map (λ (d : Decided). bytes d.answer) copied_from_one
unfolding opened
copied_from_one_lem = refl

-- how many codons the answer to an edit line has looked up
abbrev pub looked_of : Reference → Option Asked → List ℕ
looked_of r none = refused_line 30
looked_of r (some e) = decimal (values_of (outcome limits r e ample).answer).codons

abbrev pub looked : Reference → String → List ℕ
looked r edit = looked_of r (edit_line (bytes edit))

abbrev pub excepting : Reference
excepting = ending 0 "ATGAAATAA" (exc 2 "U" ∷ [])

-- E4: translate only changed codons
abbrev pub looked_up_in : List Decided
looked_up_in =
    -- by index, not by equal letters
    looked worked "4G>G" ⇒ "1"
    -- the gap alone: anchors and copied bases are not touched
    ∷ looked worked "12_13insAAA" ⇒ "1"
    ∷ looked worked "4_6dup" ⇒ "1"
    -- what the stop cut reads isn't counted
    ∷ looked worked "9_10insGCC" ⇒ "1"
    -- an identity, whatever its range
    ∷ looked worked "-2_*6=" ⇒ "0"
    -- a codon partly in the edit is read, those behind it in frame are reused
    ∷ looked worked "5_7del" ⇒ "1"
    -- a codon of the 3' UTR is read
    ∷ looked worked "13T>C" ⇒ "3"
    -- a reused stop ends the reading
    ∷ looked worked "10_12del" ⇒ "0"
    -- behind a frameshift all are read; a rest of one or two bases isn't counted
    ∷ looked worked "5del" ⇒ "5"
    -- a gap behind the CDS: A has ended before it
    ∷ looked worked "4_*6dup" ⇒ "0"
    -- no protein; an Unknown, though one codon of M** has changed; a refusal
    ∷ looked worked "1_*6del" ⇒ "0"
    ∷ looked worked "1_*7del" ⇒ "0"
    ∷ looked (ending 0 "ATGTAATAA" []) "1A>G" ⇒ "0"
    ∷ looked worked "16del" ⇒ "0"
    -- none is reused with exceptions, not even by an identity
    ∷ looked excepting "9A>G" ⇒ "3"
    ∷ looked excepting "1=" ⇒ "3"
    -- the cut codon is no whole codon
    ∷ looked (ending 2 "ATGGCCA" []) "7A>G" ⇒ "0"
    ∷ looked (ending 2 "ATGGCCA" []) "6_7insAA" ⇒ "1"
    ∷ []

pub looked_up_in_lem : map (λ (d : Decided). d.computed) looked_up_in ≡ map (λ (d : Decided). bytes d.answer) looked_up_in
unfolding opened
looked_up_in_lem = refl

-- E2: Asx and Glx instead of X
abbrev pub read_as : ℕ → String → List ℕ
read_as table s = shown (translation table [] false (bytes s) 1)

abbrev pub mixes : List Decided
mixes =
    -- both are there, and no third, in all tables
    read_as 0 "RAY" ⇒ "B"
    ∷ read_as 1 "RAC" ⇒ "B"
    ∷ read_as 2 "RAT" ⇒ "B"
    ∷ read_as 0 "SAR" ⇒ "Z"
    ∷ read_as 1 "SAG" ⇒ "Z"
    ∷ read_as 2 "SAA" ⇒ "Z"
    ∷ read_as 0 "RAN" ⇒ "X"
    ∷ read_as 0 "DAY" ⇒ "X"
    ∷ read_as 0 "VAR" ⇒ "X"
    -- plain translation, of either case and with U
    ∷ read_as 0 "rau" ⇒ "B"
    -- B and Z are residues like others
    ∷ edited (ending 0 "ATGRAYTAA" []) "4_6inv" ⇒ "substitution 2 B X"
    ∷ edited (ending 0 "ATGRAYTAA" []) "4R>G" ⇒ "substitution 2 B D"
    ∷ edited (ending 0 "ATGRAYTAA" []) "4_6delinsSAR" ⇒ "substitution 2 B Z"
    -- an exception X is X
    ∷ edited (ending 0 "ATGRAYTAA" (exc 2 "X" ∷ [])) "6Y>C" ⇒ "substitution 2 X B"
    -- with E5: a copy of B is a duplication
    ∷ edited (ending 0 "RAYATGTAA" []) "1_3dup" ⇒ "duplication 2 - B 1"
    ∷ []

pub all_mixes : map (λ (d : Decided). d.computed) mixes ≡ map (λ (d : Decided). bytes d.answer) mixes
unfolding opened
all_mixes = refl

-- E6: transcripts up to 131,072 bases; the long ones are run, not computed. R, or the refusal, of what is stored, with so much room for joined letters
abbrev pub read_within : ℕ → List ℕ → List ℕ
read_within room s = protein_in (read_reference limits.longest room s)

abbrev pub shortest : List ℕ
shortest = 1 ∷ 0 ∷ 6 ∷ bytes "ATGTAA"

abbrev pub table : List ℕ
table = 3 ∷ 0 ∷ 1 ∷ 0 ∷ []

abbrev pub bounds : List ℕ
bounds = 2 ∷ 0 ∷ 4 ∷ 0 ∷ 1 ∷ 0 ∷ 6 ∷ []

abbrev pub wide_bounds : List ℕ
wide_bounds = 7 ∷ 0 ∷ 8 ∷ 0 ∷ 0 ∷ 0 ∷ 1 ∷ 0 ∷ 0 ∷ 0 ∷ 6 ∷ []

abbrev pub in_parts : List Decided
in_parts =
    -- without tag 5 nothing is joined, and the buffer may be empty
    read_within 0 (shortest ++ bounds ++ table) ⇒ "M*"
    -- one of tags 2 and 7: 22 without, 25 with both, and 25 for the wrong one
    ∷ read_within 0 (shortest ++ table) ⇒ "refused 22"
    ∷ read_within 0 (shortest ++ bounds ++ table ++ wide_bounds) ⇒ "refused 25"
    ∷ read_within 0 (shortest ++ table ++ wide_bounds) ⇒ "refused 25"
    -- 22 before 25 before 1
    ∷ read_within 0 (shortest ++ wide_bounds) ⇒ "refused 22"
    ∷ read_within 0 (1 ∷ 0 ∷ 0 ∷ table ++ wide_bounds) ⇒ "refused 25"
    ∷ read_within 0 (1 ∷ 0 ∷ 0 ∷ bounds ++ table) ⇒ "refused 1"
    -- a letter field begun before the last was full; a missing one isn't full
    ∷ read_within 9 (1 ∷ 0 ∷ 3 ∷ bytes "ATG" ++ bounds ++ table ++ (5 ∷ 0 ∷ 3 ∷ bytes "TAA")) ⇒ "refused 25"
    ∷ read_within 9 (shortest ++ bounds ++ table ++ (6 ∷ 0 ∷ 3 ∷ bytes "TAA")) ⇒ "refused 25"
    -- 23, in field order, for an empty tag 5 or 6 and for a tag 7 of another length
    ∷ read_within 9 (shortest ++ bounds ++ table ++ (5 ∷ 0 ∷ 0 ∷ [])) ⇒ "refused 23"
    ∷ read_within 9 (shortest ++ bounds ++ table ++ (6 ∷ 0 ∷ 0 ∷ [])) ⇒ "refused 23"
    ∷ read_within 0 (shortest ++ table ++ (7 ∷ 0 ∷ 4 ∷ 0 ∷ 1 ∷ 0 ∷ 6 ∷ [])) ⇒ "refused 23"
    -- tags rise, 8 behind 7
    ∷ read_within 0 (shortest ++ table ++ (8 ∷ 0 ∷ 1 ∷ 1 ∷ []) ++ wide_bounds) ⇒ "refused 21"
    ∷ read_within 0 (shortest ++ bounds ++ table ++ (9 ∷ [])) ⇒ "refused 21"
    ∷ read_within 0 (shortest ++ bounds ++ table ++ (5 ∷ [])) ⇒ "refused 20"
    ∷ []

pub in_parts_lem : map (λ (d : Decided). d.computed) in_parts ≡ map (λ (d : Decided). bytes d.answer) in_parts
unfolding opened
in_parts_lem = refl
