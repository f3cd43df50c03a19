-- `storing_numbers::write_one` meets its contract. Assumes nothing.
use native.Mathlib.Omega.{arith}
use Rattle.rules.specs.Storing.{in_two, field_bytes}
use Rattle.storing_numbers.specs.Fields.{one_field}
use Rattle.storing_numbers.proofs.write_one.Goals as goal

pub write_field-requires : goal.write_field-requires
unfolding one_field field_bytes in_two
write_field-requires c = record { content_len_bound = omega arith; content_in_bounds = omega (arith, c.requires.n_in_bounds) }

pub returns : goal.returns
unfolding one_field
returns c = record { value = c.write_field.ensures.value; out_after = c.write_field.ensures.out_after }
