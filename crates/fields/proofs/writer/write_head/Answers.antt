-- `fields::writer::write_head` meets its contract. Assumes nothing.
use native.Mathlib.Omega.{arith}
use Rattle.fields.proofs.Written.{stored}
use Rattle.fields.proofs.writer.write_head.Goals as goal

pub returns : goal.returns
returns c = record { value = omega arith; out_after = stored c.args.tag c.args.len c.args.out.now c.requires.in_bounds c.write_two.new.out c.write_two.ensures.out_after }
