-- `storing_numbers::write_narrow` meets its contract. Assumes nothing.
use Rattle.std.specs.Prelude.{if◌then◌else◌}
use mathlib.Core.Path.{refl}
use mathlib.Core.List.{[], ◌++◌}
use lib.ListN.{length}
use Rattle.rules.specs.Storing.{in_two}
use Rattle.storing_numbers.proofs.Fields.{nothing, chosen_none, narrow-room, narrow-done}
use Rattle.storing_numbers.proofs.write_narrow.Goals as goal

pub returns-then-long : goal.returns-then-long
returns-then-long c =
    let a = c.args in
    let whole = nothing 2 (if a.long then [] else (in_two a.c.cs ++ in_two a.c.ce)) a.out.now (chosen_none a.long (in_two a.c.cs ++ in_two a.c.ce) c.if-long.true) in
    record { value = whole.0; out_after = whole.1 }

pub write_field-requires : goal.write_field-requires
write_field-requires c =
    let content = c.write_two_each in
    let whole = narrow-room c.args.long c.args.c content.new.out _ c.if-long.false refl content.ensures.out_after (length c.args.out.now) c.requires.c_in_bounds in
    record { content_len_bound = whole.0; content_in_bounds = whole.1 }

pub returns : goal.returns
returns c =
    let content = c.write_two_each in
    let w = c.write_field in
    let whole = narrow-done c.args.long c.args.c content.new.out _ c.if-long.false refl content.ensures.out_after c.args.out.now w.new.out w.result w.ensures.value w.ensures.out_after in
    record { value = whole.0; out_after = whole.1 }
