-- Where codons stand behind an edit.
use Rattle.std.specs.Prelude.{ℕ, ◌+◌, ◌*◌, ◌≤◌, ◌<◌, ◌≡◌}
use Rattle.edits.specs.declared.plans.Plan.{Plan}

-- the place of a codon, and of what stands behind an edit, fits
pub record Placed (p : Plan) (first k : ℕ) : Type 0 where
  pub front : first ≤ p.to
  pub small : first + k * 3 < 4294967296
  pub to-small : p.to < 4294967296
  pub put_small : p.from + p.kept < 8589934592

-- codon k lies behind what goes in, where codon r of R came to lie, and there are no exceptions or as many bases go in as give way
pub record Reused (p : Plan) (first count residues k r : ℕ) : Type 0 where
  pub inside : r < residues
  pub none : (count ≡ 0 → ⊥) → p.from + p.kept ≡ p.to
  pub behind : p.from + p.kept ≤ first + k * 3
  pub place : first + k * 3 + p.to ≡ first + r * 3 + (p.from + p.kept)
