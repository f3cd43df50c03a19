-- `translation::write_translated` meets its contract: the residues without exceptions, and the exceptions put over them.
-- Assumes nothing.
use mathlib.Core.Path.{◌∙◌}
use native.Mathlib.Omega.{arith}
use borrow.Author.Rules.{rules}
use Rattle.rules.specs.Translation.{exception_list, residue_count}
use Rattle.excepted.proofs.Putting.{excepted-over}
use Rattle.translation.proofs.translate.write_translated.Goals as goal

pub put_exceptions-requires : goal.put_exceptions-requires
unfolding residue_count
put_exceptions-requires c = record { count_bound = search rules; whole_in_bounds = omega (arith, c.write_letters.auto.out, c.requires.room) }

pub returns : goal.returns
returns c = let args = c.args in
    c.put_exceptions.ensures ∙ rw c.write_letters.ensures (excepted-over args.table (exception_list args.e) args.seq.now args.out.now)
