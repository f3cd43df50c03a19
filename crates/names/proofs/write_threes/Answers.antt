-- `names::write_threes` meets its contract. The invariant: writing the names that are left gives the whole.
-- Assumes nothing.
use mathlib.Core.Path.{refl, ◌∙◌}
use native.Mathlib.Omega.{arith}
use lib.ListN.{length-set}
use Rattle.rules.proofs.Lists.{all_at}
use Rattle.rules.proofs.Over.{from_start}
use Rattle.names.specs.Rows.{is_one}
use Rattle.names.proofs.Laws.{put_three, written-end}
use Rattle.names.proofs.write_threes.Goals as goal

pub loop-i-init : goal.loop-i-init
loop-i-init c = (refl, from_start _ _)

pub unwrap-row-requires : goal.unwrap-row-requires
unwrap-row-requires c = c.row_of_one.ensures.known ∙ all_at is_one c.args.one.now _ c.requires.one_value (omega arith)

pub loop-i-preserved : goal.loop-i-preserved
loop-i-preserved c =
    let found = rw c.unwrap-row.ensures at c.row_of_one.ensures.row in (
      simp length-set c.loop-i.invariant.0,
      put_three c.args.names.now c.requires.names_value c.args.one.now c.loop-i.i c.unwrap-row.result found.0 c.loop-i.out _
          (omega arith) found.1 (omega arith) c.loop-i.invariant.1,
    )

pub returns : goal.returns
returns c = written-end c.args.one.now _ _ _ (omega arith) c.loop-i.invariant.1
