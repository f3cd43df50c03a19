-- `byte_numbers::write_four` meets its contract: the rest of the buffer is lent on for the low half.
use Prim.Native.Nat.{◌/◌, ◌%◌}
use native.Mathlib.Omega.{arith}
use Rattle.rules.specs.Storing.{in_two, in_four}
use Rattle.rules.proofs.Over.{lent_on_by}
use Rattle.byte_numbers.proofs.write_four.Goals as goal

pub returns : goal.returns
unfolding in_two in_four
returns c = let high = c.write_two-high in
    let low = c.write_two in
    record { value = omega arith; out_after = lent_on_by (in_two (c.args.n / 65536)) (in_two (c.args.n % 65536)) c.args.out.now high.new.out low.new.out high.result high.ensures.value (omega arith) high.ensures.out_after low.ensures.out_after }
