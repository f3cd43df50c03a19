-- `settings::write::write_pair` meets its contract. Assumes nothing.
use mathlib.Core.List.{[], ◌∷◌}
use native.Mathlib.Omega.{arith}
use Rattle.rules.specs.Storing.{in_two, field_bytes}
use Rattle.rules.proofs.Over.{lent_on_by}
use Rattle.storing_numbers.specs.Fields.{one_field}
use Rattle.settings.proofs.Writing.{room-behind}
use Rattle.settings.proofs.write.write_pair.Goals as goal

pub write_one-requires : goal.write_one-requires
unfolding field_bytes in_two one_field
write_one-requires c = record { n_bound = c.requires.value_bound.1; n_in_bounds = room-behind c.write_one-n.new.out c.write_one-n.result 4 (omega arith) }

pub returns : goal.returns
unfolding field_bytes in_two one_field
returns c =
    let first = c.write_one-n in
    let second = c.write_one in
    record { value = omega arith; out_after = lent_on_by (field_bytes (record { tag = c.args.tag; content = c.args.value ∷ [] })) (field_bytes (record { tag = c.args.next; content = c.args.other ∷ [] })) c.args.out.now first.new.out second.new.out first.result first.ensures.value (omega arith) first.ensures.out_after second.ensures.out_after }
