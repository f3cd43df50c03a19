-- Inputs that decide clauses of document 01 which can be read two ways, in a single statement over the list of them. Every other example is run by a
-- program and compared (crates/annotate, crates/vectors_*, tests/inputs).
use mathlib.Core.Path.{◌≡◌, refl}
use mathlib.Core.Bool.{false}
use mathlib.Core.List.{List, [], ◌∷◌, ◌++◌, map}
use Prim.Native.Nat.{ℕ}
use Prim.Native.Char.{Char, code}
use Prim.Native.String.{String}
use Rattle.rules.specs.declared.Exception.{Exception}
use Rattle.rules.specs.Bytes.{bytes, Result, given, refused}
use Rattle.rules.specs.Translation.{translation}
use Rattle.rules.specs.Reference.{Reference, at_stop, reference_protein}
use Rattle.rules.specs.Refusal.{limits}
use Rattle.rules.specs.Stored.{stored_reference}
use Rattle.rules.specs.Run.{refused_line, edit_line_answer}
use Rattle.rules.specs.Opened.{opened}

-- what is computed, and what it must be
pub record Decided : Type 0 where
  pub computed : List ℕ
  pub answer : String

infix 80 ◌⇒◌
abbrev pub ◌⇒◌ : List ℕ → String → Decided
s ⇒ t = record { computed = s; answer = t }

abbrev pub of : ℕ → ℕ → ℕ → String → List Exception → Reference
of cs ce table letters es = record { letters = bytes letters; cs = cs; ce = ce; table = table; exceptions = es; end = at_stop }

-- the reference of the worked run, and a shortest one
abbrev pub worked : Reference
worked = of 3 17 0 "GGATGGCCAAATGGTAACCTGAC" []

abbrev pub shortest : Reference
shortest = of 1 6 0 "ATGTAA" []

-- an exception: a codon's number and its residue
abbrev pub exc : ℕ → Char → Exception
exc n r = record { codon = n; residue = code r }

-- the line that an edit line is answered
abbrev pub edited : Reference → String → List ℕ
edited r s = edit_line_answer r (bytes s)

-- a refusal's line, or the residues
abbrev pub shown : Result (List ℕ) → List ℕ
shown (given s) = s
shown (refused n) = refused_line n

abbrev pub protein_in : Result Reference → List ℕ
protein_in (given r) = reference_protein r
protein_in (refused n) = refused_line n

-- a stored `ref 1 6 0 ATGTAA`, and bytes behind it
abbrev pub stored_with : List ℕ → List ℕ
stored_with s = (1 ∷ 0 ∷ 6 ∷ bytes "ATGTAA") ++ (2 ∷ 0 ∷ 4 ∷ 0 ∷ 1 ∷ 0 ∷ 6 ∷ 3 ∷ 0 ∷ 1 ∷ 0 ∷ s)

abbrev pub doubtful : List Decided
doubtful =
    -- the lowest number: 7 is judged of both positions before 8 is
    edited worked "*1_0del" ⇒ "refused 7"
    -- 8 goes by place, not by editing index: here both indexes are L
    ∷ edited worked "*9_*8del" ⇒ "refused 8"
    -- 7 for a duplication's end comes before 9
    ∷ edited (of 1 6 0 "ATGTAACC" []) "*1_*3dup" ⇒ "refused 7"
    -- the end is the second position, an insertion's right anchor too
    ∷ edited shortest "6_*1insA" ⇒ "unknown"
    -- a line out of form is 30, whatever else is wrong with it
    ∷ edited worked "0x" ⇒ "refused 30"
    -- an edit across the CDS is neither before nor behind it, and a p < 0 edits from base 1 of the CDS
    ∷ edited worked "-2_*2del" ⇒ "start-lost 1 MAKW* *"
    -- the stop cut reads only the letters N and the new bases
    ∷ edited (of 1 9 0 "ATGAAATAA" []) "3_4insTA" ⇒ "stop-gained 2 K* *"
    -- a stop cut that drops nothing clears the flag all the same
    ∷ edited worked "8_9insATAA" ⇒ "stop-gained 4 W -"
    -- exceptions move by the letters of the two transcripts, prefix first
    ∷ edited (of 1 9 0 "ATGAAAAAA" (exc 3 "*" ∷ [])) "4_6del" ⇒ "extension 3 * -"
    -- an inner `*` makes every edit Unknown, identity too
    ∷ edited (of 1 9 0 "ATGTAATAA" []) "1=" ⇒ "unknown"
    -- the silent number of a duplication that ends at a star goes by q
    ∷ edited worked "4_*2dup" ⇒ "silent 1 M M"
    -- an extension needs something deleted
    ∷ edited worked "12_13insAAA" ⇒ "insertion 5 - K"
    -- where A has ended there is no residue of it, so no stop is gained
    ∷ edited (of 1 9 0 "GGCAACTAA" []) "4_9del" ⇒ "deletion 2 N* -"
    -- an exception over a codon with a bad byte
    ∷ shown (translation 0 (exc 1 "U" ∷ []) false (bytes "A?G") 1) ⇒ "refused 2"
    -- of a stored field's header that is cut off, the tag is judged first
    ∷ protein_in (stored_reference limits.longest (stored_with (3 ∷ []))) ⇒ "refused 21"
    ∷ []

pub all_decided : map (λ (d : Decided). d.computed) doubtful ≡ map (λ (d : Decided). bytes d.answer) doubtful
unfolding opened
all_decided = refl
