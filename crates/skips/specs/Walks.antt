-- What a walk over two editions leaves.
use Rattle.std.specs.Prelude.{ℕ, ◌-◌, ◌<◌, ◌≤◌, ◌≡◌, false, List}
use Rattle.rules.specs.Reference.{Reference}
use Rattle.rules.specs.Editions.{is_equal_codon, differences_from}
use Rattle.codons.specs.Tables.{HoldsCode}
use Rattle.alike.specs.declared.Edition.{Edition}
use Rattle.alike.specs.Reading.{Fits}

-- a reference that was judged, with the residues of its table
pub record Reads (s : List ℕ) (x : Edition) (residues : List ℕ) : Type 0 where
  pub fits : Fits s x
  pub code : HoldsCode x.cds.table residues

-- the codons from n on and before m are equal
pub record Passes (r s : Reference) (n past m : ℕ) : Type 0 where
  pub from : n ≤ m
  pub within : m ≤ past
  pub list : differences_from r s n (past - n) ≡ differences_from r s m (past - m)

-- the same, and m isn't, unless it is `past`
pub record Skips (r s : Reference) (n past m : ℕ) : Type 0 where
  pub from : n ≤ m
  pub within : m ≤ past
  pub list : differences_from r s n (past - n) ≡ differences_from r s m (past - m)
  pub differs : m < past → is_equal_codon r s m ≡ false
