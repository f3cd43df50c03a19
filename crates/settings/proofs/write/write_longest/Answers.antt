-- `settings::write::write_longest` meets its contract. Assumes nothing.
use mathlib.Core.List.{◌∷◌}
use native.Mathlib.Omega.{arith}
use Rattle.rules.specs.Storing.{in_two, field_bytes}
use Rattle.rules.proofs.Over.{lent_on_by}
use Rattle.settings.proofs.write.write_longest.Goals as goal

pub returns : goal.returns
unfolding field_bytes in_two
returns c =
    let first = c.write_head-n in
    let second = c.write_two in
    record { value = omega arith; out_after = lent_on_by (5 ∷ in_two 2) (in_two c.args.longest) c.args.out.now first.new.out second.new.out first.result first.ensures.value (omega arith) first.ensures.out_after second.ensures.out_after }
