-- The whole run of document 01, "Text program": its thirteen lines, in a single statement over the list of them, and as one whole input.
use mathlib.Core.Path.{◌≡◌, refl}
use mathlib.Core.List.{List, [], ◌∷◌, map}
use Prim.Native.Nat.{ℕ}
use Prim.Native.String.{String}
use Rattle.rules.specs.Bytes.{bytes}
use Rattle.rules.specs.Run.{answers, run}
use Rattle.rules.specs.Opened.{opened}

-- an input line, and the line that is printed for it
pub record Shown : Type 0 where
  pub input : String
  pub output : String

infix 80 ◌▷◌
abbrev pub ◌▷◌ : String → String → Shown
a ▷ b = record { input = a; output = b }

abbrev pub inputs : List Shown → List (List ℕ)
inputs = map (λ (x : Shown). bytes x.input)

abbrev pub outputs : List Shown → List (List ℕ)
outputs = map (λ (x : Shown). bytes x.output)

abbrev pub thirteen : List Shown
thirteen =
    "ref 3 17 0 GGATGGCCAAATGGTAACCTGAC" ▷ "reference MAKW*"
    ∷ "8A>G" ▷ "substitution 3 K R"
    ∷ "5del" ▷ "frameshift 3 KW* NGNLX"
    ∷ "4_6dup" ▷ "duplication 3 - A 2"
    ∷ "12G>A" ▷ "stop-gained 4 W -"
    ∷ "13T>C" ▷ "extension 5 * QPD"
    ∷ "6C>T" ▷ "silent 2 A A"
    ∷ "4_6inv" ▷ "substitution 2 A G"
    ∷ "1A>G" ▷ "start-lost 1 M V"
    ∷ "9_10insTAGC" ▷ "stop-gained 4 W -"
    ∷ "1_*6del" ▷ "no-protein"
    ∷ "1_*7del" ▷ "unknown"
    ∷ "16del" ▷ "refused 7"
    ∷ []

pub whole_run : answers (inputs thirteen) ≡ outputs thirteen
unfolding opened
whole_run = refl

pub whole_input : run (bytes "ref 3 17 0 GGATGGCCAAATGGTAACCTGAC\n8A>G\n5del\n4_6dup\n12G>A\n13T>C\n6C>T\n4_6inv\n1A>G\n9_10insTAGC\n1_*6del\n1_*7del\n16del") ≡ bytes "reference MAKW*\nsubstitution 3 K R\nframeshift 3 KW* NGNLX\nduplication 3 - A 2\nstop-gained 4 W -\nextension 5 * QPD\nsilent 2 A A\nsubstitution 2 A G\nstart-lost 1 M V\nstop-gained 4 W -\nno-protein\nunknown\nrefused 7\n"
unfolding opened
whole_input = refl
