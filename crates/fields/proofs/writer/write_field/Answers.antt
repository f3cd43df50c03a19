-- `fields::writer::write_field` meets its contract: the content goes into the part of the buffer that is lent on behind the head.
use mathlib.Core.Path.{refl}
use mathlib.Core.List.{◌∷◌}
use Prim.Native.Nat.{◌-◌}
use native.Mathlib.Omega.{arith}
use lib.ListN.{length, take, drop}
use Rattle.rules.specs.Storing.{in_two, field_bytes}
use Rattle.rules.proofs.Over.{lent_on_by, copied_as}
use Rattle.fields.proofs.writer.write_field.Goals as goal

pub returns : goal.returns
unfolding field_bytes in_two
returns c = let head = c.write_head-head in
    let content = c.copy in
    let whole = head.new.out in
    record {
      value = omega arith;
      out_after = lent_on_by (c.args.tag ∷ in_two (length c.args.content.now)) c.args.content.now c.args.out.now whole content.new.dst head.result head.ensures.value (omega arith) head.ensures.out_after
          (copied_as c.args.content.now c.args.content.now (take (length whole - head.result) (drop head.result whole)) content.new.dst refl content.ensures.after);
    }
