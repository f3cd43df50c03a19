-- Inputs that decide clauses of E11, in a single statement over the list of them.
use mathlib.Core.Path.{◌≡◌, refl}
use mathlib.Core.List.{List, [], ◌∷◌, ◌++◌, map}
use Prim.Native.Nat.{ℕ, zero, suc}
use Prim.Native.String.{String}
use Rattle.rules.specs.Bytes.{bytes, each, Result, given, refused}
use Rattle.rules.specs.Reference.{Reference}
use Rattle.rules.specs.Refusal.{limits}
use Rattle.rules.specs.Editions.{Difference, differences, listed, compared}
use Rattle.rules.specs.Run.{decimal, refused_line}
use Rattle.rules.specs.Opened.{opened}
use Rattle.rules.proofs.Doubtful.{Decided, ◌⇒◌, of, exc}
use Rattle.rules.proofs.Requested.{ending}

-- a residue, `-` where there is no such codon
abbrev pub residue_shown : ℕ → List ℕ
residue_shown zero = bytes "-"
residue_shown (suc n) = suc n ∷ []

-- a line for each difference, `;` behind it
abbrev pub shown_difference : Difference → List ℕ
shown_difference d = decimal d.number ++ (bytes " " ++ (residue_shown d.first ++ (bytes " " ++ (residue_shown d.second ++ bytes ";"))))

abbrev pub shown_by : Reference → Reference → Result (List ℕ) → List ℕ
shown_by r s (given l) = each shown_difference (differences r s)
shown_by r s (refused n) = refused_line n

abbrev pub compared_in : ℕ → Reference → Reference → List ℕ
compared_in room r s = shown_by r s (compared limits.longest r s room)

abbrev pub plain : String → Reference
plain letters = ending 0 letters []

abbrev pub editions : List Decided
editions =
    -- other letters with the same residue; codons that only one has
    compared_in 12 (plain "ATGAAATAA") (plain "ATGAAGCCCTAA") ⇒ "2 K K;3 * P;4 - *;"
    ∷ compared_in 11 (plain "ATGAAATAA") (plain "ATGAAGCCCTAA") ⇒ "refused 50"
    ∷ compared_in 40 (plain "ATGAAACCCTAA") (plain "ATGAAATAA") ⇒ "3 P *;4 * -;"
    ∷ compared_in 40 (plain "ATGAAATAA") (plain "ATGAAGTAA") ⇒ "2 K K;"
    -- equal letters with other residues, by table or exception
    ∷ compared_in 40 (of 1 9 1 "ATGTGATAA" []) (of 1 9 2 "ATGTGATAA" []) ⇒ "2 U W;"
    ∷ compared_in 40 (ending 0 "ATGAAATAA" (exc 2 "U" ∷ [])) (plain "ATGAAATAA") ⇒ "2 U K;"
    ∷ compared_in 40 (ending 0 "ATGRAYTAA" (exc 2 "X" ∷ [])) (plain "ATGRAYTAA") ⇒ "2 X B;"
    -- the CDS alone
    ∷ compared_in 0 (plain "ATGAAATAA") (of 2 10 0 "CATGAAATAACC" []) ⇒ ""
    -- a cut codon: one or two letters against three are other letters, even where both read X
    ∷ compared_in 40 (ending 2 "ATGAAGNN" []) (plain "ATGAAGNNNTAA") ⇒ "3 X X;4 - *;"
    ∷ compared_in 0 (ending 2 "ATGAAGC" []) (ending 2 "ATGAAGC" []) ⇒ ""
    ∷ compared_in 40 (ending 2 "ATGAAGC" []) (ending 2 "ATGAAGCC" []) ⇒ "3 X X;"
    -- all of the first's refusals, then the second's with 100 added, then 50; several stops are no fault
    ∷ compared_in 40 (plain "ATGAAA") (plain "ATGAAA") ⇒ "refused 6"
    ∷ compared_in 0 (plain "ATGTAA") (plain "ATGAAA") ⇒ "refused 106"
    ∷ compared_in 0 (plain "ATGTAA") (ending 1 "ATGTAA" []) ⇒ "refused 128"
    ∷ compared_in 4 (plain "ATGTAATAA") (plain "ATGTGATAA") ⇒ "2 * *;"
    ∷ []

pub all_editions : map (λ (d : Decided). d.computed) editions ≡ map (λ (d : Decided). bytes d.answer) editions
unfolding opened
all_editions = refl

-- four bytes a difference
pub in_bytes : listed (plain "ATGAAATAA") (plain "ATGAAGCCCTAA") ≡ 0 ∷ 2 ∷ 0x4b ∷ 0x4b ∷ 0 ∷ 3 ∷ 0x2a ∷ 0x50 ∷ 0 ∷ 4 ∷ 0 ∷ 0x2a ∷ []
unfolding opened
in_bytes = refl
