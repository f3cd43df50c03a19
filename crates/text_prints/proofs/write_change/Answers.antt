-- `text_prints::write_change` meets its contract. Assumes nothing.
use mathlib.Core.Path.{ap}
use mathlib.Core.List.{List, ◌++◌}
use Prim.Native.Nat.{ℕ}
use native.Mathlib.Omega.{arith}
use lib.ListN.{length, length-append}
use Rattle.rules.specs.Bytes.{bytes}
use Rattle.rules.specs.Record.{part_of}
use Rattle.rules.specs.Run.{class_name, decimal, change_line}
use Rattle.text_prints.specs.Words.{parts_line}
use Rattle.text_prints.proofs.Puts.{copied_whole, second-start, second-room, both-fit, third-start, third-room, three}
use Rattle.text_prints.proofs.write_change.Goals as goal

pub copy-n-requires : goal.copy-n-requires
unfolding change_line
copy-n-requires c =
    let args = c.args in
    let pre = c.requires in
    omega (arith, pre, ap (λ (s : List ℕ). length s) c.name.ensures, length-append (class_name args.c.class) ((bytes " " ++ decimal args.c.number) ++ (parts_line (part_of args.c.deleted args.r.now) (part_of args.c.inserted args.a.now) args.c.first)))

pub slice_bounds-write_spaced_decimal-count : goal.slice_bounds-write_spaced_decimal-count
unfolding change_line
slice_bounds-write_spaced_decimal-count c =
    let args = c.args in
    let pre = c.requires in
    let copy = c.copy-n in
    let name = copied_whole _ (class_name args.c.class) args.out.now copy.new.dst copy.result c.name.ensures copy.ensures.count copy.ensures.after in
    second-start (class_name args.c.class) (bytes " " ++ decimal args.c.number) (parts_line (part_of args.c.deleted args.r.now) (part_of args.c.inserted args.a.now) args.c.first) args.out.now pre copy.new.dst copy.result name.0 name.1

pub slice_bounds-write_spaced_decimal-start : goal.slice_bounds-write_spaced_decimal-start
unfolding change_line
slice_bounds-write_spaced_decimal-start c =
    let args = c.args in
    let pre = c.requires in
    let copy = c.copy-n in
    let name = copied_whole _ (class_name args.c.class) args.out.now copy.new.dst copy.result c.name.ensures copy.ensures.count copy.ensures.after in
    second-start (class_name args.c.class) (bytes " " ++ decimal args.c.number) (parts_line (part_of args.c.deleted args.r.now) (part_of args.c.inserted args.a.now) args.c.first) args.out.now pre copy.new.dst copy.result name.0 name.1

pub write_spaced_decimal-requires : goal.write_spaced_decimal-requires
unfolding change_line
write_spaced_decimal-requires c =
    let args = c.args in
    let pre = c.requires in
    let copy = c.copy-n in
    let name = copied_whole _ (class_name args.c.class) args.out.now copy.new.dst copy.result c.name.ensures copy.ensures.count copy.ensures.after in
    second-room (class_name args.c.class) (bytes " " ++ decimal args.c.number) (parts_line (part_of args.c.deleted args.r.now) (part_of args.c.inserted args.a.now) args.c.first) args.out.now pre copy.new.dst copy.result name.0 name.1

pub overflow_add-m : goal.overflow_add-m
unfolding change_line
overflow_add-m c =
    let args = c.args in
    let pre = c.requires in
    let copy = c.copy-n in
    let name = copied_whole _ (class_name args.c.class) args.out.now copy.new.dst copy.result c.name.ensures copy.ensures.count copy.ensures.after in
    let write-spaced-decimal = c.write_spaced_decimal in
    omega (arith, both-fit (class_name args.c.class) (bytes " " ++ decimal args.c.number) (parts_line (part_of args.c.deleted args.r.now) (part_of args.c.inserted args.a.now) args.c.first) args.out.now pre copy.new.dst copy.result name.0 name.1 write-spaced-decimal.new.out write-spaced-decimal.result write-spaced-decimal.ensures.value write-spaced-decimal.ensures.out_after)

pub slice_bounds-write_parts-count : goal.slice_bounds-write_parts-count
unfolding change_line
slice_bounds-write_parts-count c =
    let args = c.args in
    let pre = c.requires in
    let copy = c.copy-n in
    let name = copied_whole _ (class_name args.c.class) args.out.now copy.new.dst copy.result c.name.ensures copy.ensures.count copy.ensures.after in
    let write-spaced-decimal = c.write_spaced_decimal in
    third-start (class_name args.c.class) (bytes " " ++ decimal args.c.number) (parts_line (part_of args.c.deleted args.r.now) (part_of args.c.inserted args.a.now) args.c.first) args.out.now pre copy.new.dst copy.result name.0 name.1 write-spaced-decimal.new.out write-spaced-decimal.result write-spaced-decimal.ensures.value write-spaced-decimal.ensures.out_after

pub slice_bounds-write_parts-start : goal.slice_bounds-write_parts-start
unfolding change_line
slice_bounds-write_parts-start c =
    let args = c.args in
    let pre = c.requires in
    let copy = c.copy-n in
    let name = copied_whole _ (class_name args.c.class) args.out.now copy.new.dst copy.result c.name.ensures copy.ensures.count copy.ensures.after in
    let write-spaced-decimal = c.write_spaced_decimal in
    third-start (class_name args.c.class) (bytes " " ++ decimal args.c.number) (parts_line (part_of args.c.deleted args.r.now) (part_of args.c.inserted args.a.now) args.c.first) args.out.now pre copy.new.dst copy.result name.0 name.1 write-spaced-decimal.new.out write-spaced-decimal.result write-spaced-decimal.ensures.value write-spaced-decimal.ensures.out_after

pub write_parts-requires : goal.write_parts-requires
unfolding change_line
write_parts-requires c =
    let args = c.args in
    let pre = c.requires in
    let copy = c.copy-n in
    let name = copied_whole _ (class_name args.c.class) args.out.now copy.new.dst copy.result c.name.ensures copy.ensures.count copy.ensures.after in
    let write-spaced-decimal = c.write_spaced_decimal in
    let part_of_lem = c.part_of in
    let part-of2 = c.part_of-2 in
    rw (part_of_lem.ensures, part-of2.ensures) (third-room (class_name args.c.class) (bytes " " ++ decimal args.c.number) (parts_line (part_of args.c.deleted args.r.now) (part_of args.c.inserted args.a.now) args.c.first) args.out.now pre copy.new.dst copy.result name.0 name.1 write-spaced-decimal.new.out write-spaced-decimal.result write-spaced-decimal.ensures.value write-spaced-decimal.ensures.out_after)

pub overflow_add-result : goal.overflow_add-result
unfolding change_line
overflow_add-result c =
    let args = c.args in
    let good = c.well_formed in
    let pre = c.requires in
    let copy = c.copy-n in
    let name = copied_whole _ (class_name args.c.class) args.out.now copy.new.dst copy.result c.name.ensures copy.ensures.count copy.ensures.after in
    let write-spaced-decimal = c.write_spaced_decimal in
    let part_of_lem = c.part_of in
    let part-of2 = c.part_of-2 in
    let write-parts = c.write_parts in
    let all = three (class_name args.c.class) (bytes " " ++ decimal args.c.number) (parts_line (part_of args.c.deleted args.r.now) (part_of args.c.inserted args.a.now) args.c.first) args.out.now pre copy.new.dst copy.result name.0 name.1 write-spaced-decimal.new.out write-spaced-decimal.result write-spaced-decimal.ensures.value write-spaced-decimal.ensures.out_after write-parts.new.out write-parts.result (rw (part_of_lem.ensures, part-of2.ensures) at write-parts.ensures.value) (rw (part_of_lem.ensures, part-of2.ensures) at write-parts.ensures.out_after) in
    omega (arith, all.0, pre, good)

pub returns : goal.returns
unfolding change_line
returns c =
    let args = c.args in
    let pre = c.requires in
    let copy = c.copy-n in
    let name = copied_whole _ (class_name args.c.class) args.out.now copy.new.dst copy.result c.name.ensures copy.ensures.count copy.ensures.after in
    let write-spaced-decimal = c.write_spaced_decimal in
    let part_of_lem = c.part_of in
    let part-of2 = c.part_of-2 in
    let write-parts = c.write_parts in
    let whole = three (class_name args.c.class) (bytes " " ++ decimal args.c.number) (parts_line (part_of args.c.deleted args.r.now) (part_of args.c.inserted args.a.now) args.c.first) args.out.now pre copy.new.dst copy.result name.0 name.1 write-spaced-decimal.new.out write-spaced-decimal.result write-spaced-decimal.ensures.value write-spaced-decimal.ensures.out_after write-parts.new.out write-parts.result (rw (part_of_lem.ensures, part-of2.ensures) at write-parts.ensures.value) (rw (part_of_lem.ensures, part-of2.ensures) at write-parts.ensures.out_after) in
    record { value = whole.0; out_after = whole.1 }
