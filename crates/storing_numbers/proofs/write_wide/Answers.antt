-- `storing_numbers::write_wide` meets its contract. Assumes nothing.
use Rattle.std.specs.Prelude.{if◌then◌else◌}
use mathlib.Core.Path.{refl, ap}
use mathlib.Core.List.{[], ◌++◌}
use lib.ListN.{length}
use borrow.Author.Tests.{not-false}
use Rattle.rules.specs.Storing.{in_four}
use Rattle.storing_numbers.proofs.Fields.{nothing, chosen_other, not_true, wide_room, wide-done}
use mathlib.Core.Bool.{not}
use Rattle.storing_numbers.proofs.write_wide.Goals as goal

pub returns-then-not-long : goal.returns-then-not-long
returns-then-not-long c =
    let a = c.args in
    let whole = nothing 7 (if a.long then (in_four a.c.cs ++ in_four a.c.ce) else []) a.out.now (chosen_other a.long (in_four a.c.cs ++ in_four a.c.ce) (not_true a.long (ap not c.if-not-long.true))) in
    record { value = whole.0; out_after = whole.1 }

pub write_field-requires : goal.write_field-requires
write_field-requires c =
    let content = c.write_four_each in
    let whole = wide_room c.args.long c.args.c content.new.out _ (not-false c.args.long (ap not c.if-not-long.false)) refl content.ensures.out_after (length c.args.out.now) c.requires.c_in_bounds in
    record { content_len_bound = whole.0; content_in_bounds = whole.1 }

pub returns : goal.returns
returns c =
    let content = c.write_four_each in
    let w = c.write_field in
    let whole = wide-done c.args.long c.args.c content.new.out _ (not-false c.args.long (ap not c.if-not-long.false)) refl content.ensures.out_after c.args.out.now w.new.out w.result w.ensures.value w.ensures.out_after in
    record { value = whole.0; out_after = whole.1 }
