-- `storing_numbers::write_four_each` meets its contract: the rest of the buffer is lent on for ce.
use native.Mathlib.Omega.{arith}
use Rattle.rules.specs.Storing.{in_two, in_four}
use Rattle.rules.proofs.Over.{lent_on_by}
use Rattle.storing_numbers.proofs.write_four_each.Goals as goal

pub returns : goal.returns
unfolding in_two in_four
returns c =
    let first = c.write_four-start in
    let second = c.write_four in
    record { value = omega arith; out_after = lent_on_by (in_four c.args.c.cs) (in_four c.args.c.ce) c.args.out.now first.new.out second.new.out first.result first.ensures.value (omega arith) first.ensures.out_after second.ensures.out_after }
