-- `names::write_ones` meets its contract. The invariant: writing the residues that are left gives the whole, and each has its name.
-- Assumes nothing.
use mathlib.Core.Path.{refl, ◌∙◌}
use native.Mathlib.Omega.{arith}
use lib.ListN.{length-set}
use Rattle.rules.proofs.Over.{from_start}
use Rattle.names.proofs.Laws.{threes-row, put_one, residues-end}
use Rattle.names.proofs.write_ones.Goals as goal

pub loop-i-init : goal.loop-i-init
loop-i-init c = (refl, c.requires.three_value, from_start _ _)

pub unwrap-row-requires : goal.unwrap-row-requires
unwrap-row-requires c = c.row_of_three.ensures.known ∙ (threes-row c.args.three.now _ (omega arith) c.loop-i.invariant.1).0

pub loop-i-preserved : goal.loop-i-preserved
loop-i-preserved c =
    let found = rw c.unwrap-row.ensures at c.row_of_three.ensures.row in (
      simp length-set c.loop-i.invariant.0,
      (threes-row c.args.three.now _ (omega arith) c.loop-i.invariant.1).1,
      put_one c.args.names.now c.requires.names_value c.args.three.now c.loop-i.i c.unwrap-row.result found.0 c.loop-i.out _
          (omega arith) found.1 (omega arith) c.loop-i.invariant.2,
    )

pub returns : goal.returns
returns c = residues-end c.args.three.now _ _ _ c.requires.three_len (omega arith) c.loop-i.invariant.2
