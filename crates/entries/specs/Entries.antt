-- A codon's letters as one number, and its residue by it.
use Rattle.std.specs.Prelude.{ℕ, ◌+◌, ◌-◌, ◌*◌, ◌%◌, ◌≤◌, ◌≡◌, true, List, eqb, length, get_or, if◌then◌else◌}
use Rattle.rules.specs.declared.Cds.{Cds}
use Rattle.rules.specs.declared.Exception.{Exception}
use Rattle.rules.specs.Bytes.{all}
use Rattle.rules.specs.Letters.{letter_set, is_letter}
use Rattle.rules.specs.Codons.{residue_x}
use Rattle.rules.specs.Translation.{excepted}
use Rattle.rules.specs.Reference.{Reference, cds}

-- the letter set of base k of a CDS, counted from 0; behind its last the empty one
unfoldable pub base_at : Reference → ℕ → ℕ
base_at r k = letter_set (get_or (cds r) k 0)

-- the letters of codon n, from 1, as one number: where its residue stands among the 4,096
unfoldable pub entry_of : Reference → ℕ → ℕ
entry_of r n = base_at r ((n - 1) * 3) * 256 + base_at r ((n - 1) * 3 + 1) * 16 + base_at r ((n - 1) * 3 + 2)

-- the residue of codon n by that number
unfoldable pub residue_by : List ℕ → List Exception → ℕ → ℕ → ℕ
residue_by residues es entry n =
    if eqb entry 0 then 0
    else if eqb (entry % 16) 0 then residue_x
    else excepted es n (get_or residues entry 0)

-- a CDS within letters
pub record Inside (s : List ℕ) (c : Cds) : Type 0 where
  pub first : 1 ≤ c.cs
  pub rising : c.cs ≤ c.ce
  pub ends : c.ce ≤ length s
  pub letters : all is_letter s ≡ true
