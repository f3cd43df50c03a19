-- Inputs that decide clauses of E9 which can be read two ways, in a single statement over the list of them.
use mathlib.Core.Path.{◌≡◌, refl}
use mathlib.Core.List.{List, [], ◌∷◌, map}
use mathlib.Core.Option.{Option, none, some}
use Prim.Native.Nat.{ℕ}
use Prim.Native.String.{String}
use Rattle.rules.specs.Bytes.{byte, bytes}
use Rattle.rules.specs.Reference.{Reference}
use Rattle.rules.specs.Edit.{Asked}
use Rattle.rules.specs.Panel.{panel_within}
use Rattle.rules.specs.Line.{edit_line}
use Rattle.rules.specs.Run.{refused_line}
use Rattle.rules.specs.Opened.{opened}
use Rattle.rules.proofs.Doubtful.{Decided, ◌⇒◌, worked, of}
use Rattle.rules.proofs.Requested.{ending, ample}
use Rattle.rules.proofs.RequestedStores.{line_of}

abbrev pub panel_of : ℕ → Reference → ℕ → Option Asked → List ℕ
panel_of longest r named none = refused_line 30
panel_of longest r named (some e) = line_of (panel_within longest r e named ample).answer r e

-- an edit line, and the base that it names
abbrev pub panel : Reference → ℕ → String → List ℕ
panel r named edit = panel_of 0 r named (edit_line (bytes edit))

abbrev pub judged : List Decided
judged =
    -- any letter of the transcript, behind 10
    panel (of 1 9 0 "ATGAAATAAN" []) (byte "A") "4A>C" ⇒ "refused 40"
    ∷ panel (of 1 9 0 "ATGAAATAAN" []) 0 "0del" ⇒ "refused 7"
    ∷ panel worked (byte "A") "8A>N" ⇒ "refused 40"
    ∷ panel worked (byte "A") "8A>Z" ⇒ "refused 10"
    -- both ends in the CDS, an insertion's right anchor too
    ∷ panel worked 0 "15_*1insAAA" ⇒ "refused 41"
    ∷ panel worked 0 "13_*1del" ⇒ "refused 41"
    ∷ panel worked 0 "-2_1del" ⇒ "refused 41"
    ∷ panel worked 0 "4_6inv" ⇒ "refused 41"
    ∷ panel worked 0 "4=" ⇒ "refused 41"
    ∷ panel worked 0 "4_6delinsTTT" ⇒ "refused 41"
    -- 40 before 41 before 42 before 43
    ∷ panel worked 0 "4_9delinsNNN" ⇒ "refused 40"
    ∷ panel worked 0 "13_*2del" ⇒ "refused 41"
    -- the net change before the cut; it needn't begin with a codon
    ∷ panel worked 0 "8_9insATAA" ⇒ "refused 42"
    ∷ panel worked 0 "9_10insTAG" ⇒ "stop-gained 4 W -"
    ∷ panel worked 0 "5_7del" ⇒ "delins 2 AK E"
    ∷ panel worked 0 "4_6dup" ⇒ "duplication 3 - A 2"
    ∷ panel worked 0 "4dup" ⇒ "refused 42"
    -- the base there, in a substitution alone; no byte is no base
    ∷ panel worked (byte "C") "8A>G" ⇒ "refused 43"
    ∷ panel worked (byte "A") "8A>G" ⇒ "substitution 3 K R"
    ∷ panel worked 321 "8A>G" ⇒ "refused 43"
    ∷ panel worked 321 "4_6del" ⇒ "deletion 2 A -"
    -- before Unknown
    ∷ panel (ending 0 "ATGTAATAA" []) 0 "4del" ⇒ "refused 42"
    ∷ panel (ending 0 "ATGTAATAA" []) (byte "T") "4T>A" ⇒ "unknown"
    -- references cut short
    ∷ panel (ending 1 "ATGGCC" []) (byte "G") "4G>C" ⇒ "substitution 2 A P"
    ∷ panel (ending 1 "ATGGCC" []) 0 "4_*1del" ⇒ "refused 41"
    -- 10 by the longest edit, before 40
    ∷ panel_of 2 worked 0 (edit_line (bytes "9_10insTAG")) ⇒ "refused 10"
    ∷ panel_of 4097 worked 0 (edit_line (bytes "9_10insTAG")) ⇒ "refused 62"
    ∷ []

pub all_judged : map (λ (d : Decided). d.computed) judged ≡ map (λ (d : Decided). bytes d.answer) judged
unfolding opened
all_judged = refl
