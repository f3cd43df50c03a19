-- `text_prints::words::write_silent` meets its contract. Assumes nothing.
use mathlib.Core.Path.{refl}
use mathlib.Core.List.{[], ◌∷◌, ◌++◌}
use native.Mathlib.Omega.{arith}
use Rattle.rules.specs.Bytes.{bytes}
use Rattle.rules.specs.Run.{record_line, decimal}
use Rattle.rules.proofs.Over.{copied_as}
use Rattle.text_prints.proofs.Puts.{second-room, both-fit, third-start, third-room, three}
use Rattle.text_prints.proofs.words.write_silent.Goals as goal

pub copy-k-requires : goal.copy-k-requires
unfolding record_line
copy-k-requires c = omega (arith, c.requires)

pub write_spaced_decimal-requires : goal.write_spaced_decimal-requires
unfolding record_line
write_spaced_decimal-requires c =
    let args = c.args in
    let pre = c.requires in
    let copy = c.copy-k in
    second-room (bytes "silent") (bytes " " ++ decimal args.number) (32 ∷ args.residue ∷ 32 ∷ args.residue ∷ []) args.out.now pre copy.new.dst copy.result copy.ensures.count (copied_as (bytes "silent") (bytes "silent") args.out.now copy.new.dst refl copy.ensures.after)

pub overflow_add-m : goal.overflow_add-m
unfolding record_line
overflow_add-m c =
    let args = c.args in
    let pre = c.requires in
    let copy = c.copy-k in
    let write-spaced-decimal = c.write_spaced_decimal in
    omega (arith, both-fit (bytes "silent") (bytes " " ++ decimal args.number) (32 ∷ args.residue ∷ 32 ∷ args.residue ∷ []) args.out.now pre copy.new.dst copy.result copy.ensures.count (copied_as (bytes "silent") (bytes "silent") args.out.now copy.new.dst refl copy.ensures.after) write-spaced-decimal.new.out write-spaced-decimal.result write-spaced-decimal.ensures.value write-spaced-decimal.ensures.out_after)

pub slice_bounds-copy-count : goal.slice_bounds-copy-count
unfolding record_line
slice_bounds-copy-count c =
    let args = c.args in
    let pre = c.requires in
    let copy = c.copy-k in
    let write-spaced-decimal = c.write_spaced_decimal in
    third-start (bytes "silent") (bytes " " ++ decimal args.number) (32 ∷ args.residue ∷ 32 ∷ args.residue ∷ []) args.out.now pre copy.new.dst copy.result copy.ensures.count (copied_as (bytes "silent") (bytes "silent") args.out.now copy.new.dst refl copy.ensures.after) write-spaced-decimal.new.out write-spaced-decimal.result write-spaced-decimal.ensures.value write-spaced-decimal.ensures.out_after

pub slice_bounds-copy-start : goal.slice_bounds-copy-start
unfolding record_line
slice_bounds-copy-start c =
    let args = c.args in
    let pre = c.requires in
    let copy = c.copy-k in
    let write-spaced-decimal = c.write_spaced_decimal in
    third-start (bytes "silent") (bytes " " ++ decimal args.number) (32 ∷ args.residue ∷ 32 ∷ args.residue ∷ []) args.out.now pre copy.new.dst copy.result copy.ensures.count (copied_as (bytes "silent") (bytes "silent") args.out.now copy.new.dst refl copy.ensures.after) write-spaced-decimal.new.out write-spaced-decimal.result write-spaced-decimal.ensures.value write-spaced-decimal.ensures.out_after

pub copy-requires : goal.copy-requires
unfolding record_line
copy-requires c =
    let args = c.args in
    let pre = c.requires in
    let copy = c.copy-k in
    let write-spaced-decimal = c.write_spaced_decimal in
    third-room (bytes "silent") (bytes " " ++ decimal args.number) (32 ∷ args.residue ∷ 32 ∷ args.residue ∷ []) args.out.now pre copy.new.dst copy.result copy.ensures.count (copied_as (bytes "silent") (bytes "silent") args.out.now copy.new.dst refl copy.ensures.after) write-spaced-decimal.new.out write-spaced-decimal.result write-spaced-decimal.ensures.value write-spaced-decimal.ensures.out_after

pub returns : goal.returns
unfolding record_line
returns c =
    let args = c.args in
    let pre = c.requires in
    let copy = c.copy-k in
    let write-spaced-decimal = c.write_spaced_decimal in
    let copy2 = c.copy in
    let whole = three (bytes "silent") (bytes " " ++ decimal args.number) (32 ∷ args.residue ∷ 32 ∷ args.residue ∷ []) args.out.now pre copy.new.dst copy.result copy.ensures.count (copied_as (bytes "silent") (bytes "silent") args.out.now copy.new.dst refl copy.ensures.after) write-spaced-decimal.new.out write-spaced-decimal.result write-spaced-decimal.ensures.value write-spaced-decimal.ensures.out_after copy2.new.dst copy2.result copy2.ensures.count (copied_as (32 ∷ args.residue ∷ 32 ∷ args.residue ∷ []) (32 ∷ args.residue ∷ 32 ∷ args.residue ∷ []) _ copy2.new.dst refl copy2.ensures.after) in
    record { value = whole.0; out_after = whole.1 }
