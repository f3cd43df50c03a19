-- `prefixes::equals` meets its contract.
use mathlib.Core.Path.{sym}
use Rattle.rules.proofs.Trims.{same_lengths, same_equal}
use Rattle.prefixes.proofs.equals.Goals as goal

pub returns-then-a-b : goal.returns-then-a-b
returns-then-a-b c = sym (same_lengths c.args.a.now c.args.b.now c.if-a-b.true)

pub returns : goal.returns
returns c = rw c.common_prefix_len.ensures (sym (same_equal c.args.a.now c.args.b.now c.if-a-b.false))
