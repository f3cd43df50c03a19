-- `settings::write::write_four` meets its contract. Assumes nothing.
use mathlib.Core.List.{[], ◌∷◌, ◌++◌}
use native.Mathlib.Omega.{arith}
use Rattle.rules.specs.Storing.{in_two, field_bytes}
use Rattle.rules.proofs.Over.{lent_on_by}
use Rattle.settings.specs.Writing.{first_four}
use Rattle.settings.proofs.write.write_four.Goals as goal

pub returns : goal.returns
unfolding field_bytes in_two first_four
returns c =
    let first = c.write_pair-n in
    let second = c.write_pair in
    record { value = omega arith; out_after = lent_on_by (field_bytes (record { tag = 1; content = c.args.x.version ∷ [] }) ++ field_bytes (record { tag = 2; content = c.args.x.table ∷ [] })) (field_bytes (record { tag = 3; content = c.args.x.profile ∷ [] }) ++ field_bytes (record { tag = 4; content = c.args.x.width ∷ [] })) c.args.out.now first.new.out second.new.out first.result first.ensures.value (omega arith) first.ensures.out_after second.ensures.out_after }
