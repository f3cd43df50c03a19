-- `settings::write::write_store` meets its contract: the longest edit goes into the part of the buffer that is lent on behind the first four fields.
use mathlib.Core.Path.{◌≡◌, sym, ◌∙◌}
use mathlib.Core.Bool.{true, false}
use native.Mathlib.Omega.{arith}
use lib.ListN.{length}
use Rattle.rules.specs.Settings.{has_longest, store_of}
use Rattle.rules.specs.Storing.{in_two, field_bytes}
use Rattle.rules.proofs.Over.{lent_on_by}
use Rattle.settings.specs.Writing.{first_four}
use Rattle.settings.proofs.Writing.{four, five, length-four, size, at_least, room-behind}
use Rattle.settings.proofs.write.write_store.Goals as goal

pub write_four-n-requires : goal.write_four-n-requires
write_four-n-requires c = record { writes = c.requires.writes; in_bounds = omega (arith, at_least c.args.x) }

pub slice_bounds-write_longest-count : goal.slice_bounds-write_longest-count
slice_bounds-write_longest-count c = omega (arith, at_least c.args.x)

pub slice_bounds-write_longest-start : goal.slice_bounds-write_longest-start
slice_bounds-write_longest-start c = omega (arith, at_least c.args.x)

pub write_longest-requires : goal.write_longest-requires
write_longest-requires c =
    let first = c.write_four-n in
    let h : has_longest c.args.x.version ≡ true = sym c.has_longest.ensures ∙ c.if-has_longest.true in
    let long : length (store_of c.args.x) ≡ 21 = size c.args.x ∙ rw h in
    record { longest_bound = c.requires.writes.longest; in_bounds = room-behind first.new.out first.result 5 (omega arith) }

pub returns-then-has_longest : goal.returns-then-has_longest
returns-then-has_longest c =
    let first = c.write_four-n in
    let last = c.write_longest in
    let x = c.args.x in
    let h : has_longest x.version ≡ true = sym c.has_longest.ensures ∙ c.if-has_longest.true in
    let long : length (store_of x) ≡ 21 = size x ∙ rw h in
    record {
      value = omega arith;
      out_after = rw (five x h)
          (lent_on_by (first_four x) (field_bytes (record { tag = 5; content = in_two x.longest })) c.args.out.now first.new.out last.new.out first.result (first.ensures.value ∙ sym (length-four x)) (omega (arith, length-four x)) first.ensures.out_after last.ensures.out_after);
    }

pub returns : goal.returns
returns c =
    let x = c.args.x in
    let first = c.write_four-n in
    let h : has_longest x.version ≡ false = sym c.has_longest.ensures ∙ c.if-has_longest.false in
    record { value = first.ensures.value ∙ sym (size x ∙ rw h); out_after = rw (four x h) first.ensures.out_after }
