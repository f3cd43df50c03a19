-- What the bounds of a reference leave, and all of 1 to 4.
use Rattle.std.specs.Prelude.{◌<◌, ◌≤◌, ◌≡◌, true}
use Rattle.rules.specs.declared.Cds.{Cds}
use Rattle.rules.specs.Bytes.{all}
use Rattle.rules.specs.Letters.{is_letter}
use Rattle.rules.specs.Reference.{Reference, size}
use Rattle.rules.proofs.Reference.{Bounds}

-- the bounds in order, and so small that a place fits
pub record Bounded (c : Cds) : Type 0 where
  pub first : 1 ≤ c.cs
  pub ordered : c.cs ≤ c.ce
  pub small : c.ce < 4294967296

-- what 1 to 4 leave
pub record Sound (r : Reference) : Type 0 where
  pub bounds : Bounds r
  pub short : size r < 4294967296
  pub table : r.table < 3
  pub letters : all is_letter r.letters ≡ true
