-- `storing_numbers::write_two_each` meets its contract: the rest of the buffer is lent on for ce.
use native.Mathlib.Omega.{arith}
use Rattle.rules.specs.Storing.{in_two}
use Rattle.rules.proofs.Over.{lent_on_by}
use Rattle.storing_numbers.proofs.write_two_each.Goals as goal

pub returns : goal.returns
unfolding in_two
returns c =
    let first = c.write_two-start in
    let second = c.write_two in
    record { value = omega arith; out_after = lent_on_by (in_two c.args.c.cs) (in_two c.args.c.ce) c.args.out.now first.new.out second.new.out first.result first.ensures.value (omega arith) first.ensures.out_after second.ensures.out_after }
