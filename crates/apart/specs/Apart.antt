-- What is known of an edit where the bases that it touches are told.
use Rattle.std.specs.Prelude.{ℕ, ◌<◌, ◌≡◌, false}
use Rattle.rules.specs.declared.Cds.{Cds}
use Rattle.rules.specs.declared.Edit.{Edit}
use Rattle.rules.specs.Position.{is_outside, index}
use Rattle.reference.specs.Bounds.{Bounded}

-- both positions are inside, and the start lies before the CDS's end
pub record Touching (c : Cds) (len : ℕ) (edit : Edit) : Type 0 where
  pub bounded : Bounded c
  pub start-inside : is_outside c.cs c.ce edit.start ≡ false
  pub end-inside : is_outside c.cs c.ce edit.end ≡ false
  pub starts : index c.cs c.ce len edit.start < c.ce
