-- `names::name_table` meets its contract: the constant is the table of document 01's names.
-- Assumes nothing.
use mathlib.Core.Path.{refl}
use Rattle.rules.specs.Bytes.{each}
use Rattle.rules.specs.Names.{names}
use Rattle.names.specs.Rows.{table}
use Rattle.names.proofs.name_table.Goals as goal

pub returns : goal.returns
unfolding table each names
returns c = refl
